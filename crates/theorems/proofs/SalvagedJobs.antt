-- A repaired DCF as a job: demand 3 of it, whose entries are all that it counts.
use Rattle.std.specs.Prelude.{Option, Some}
use Prim.Native.Nat.{ℕ}
use mathlib.Core.Path.{◌≡◌, refl, subst}
use mathlib.Core.List.{List}
use lib.ListN.{length}
use Rattle.codec.specs.Bytes.{Bytes}
use Rattle.codec.specs.Dcf.{readable_entries}
use Rattle.codec_salvage.specs.Salvage.{repaired}
use Rattle.codec_salvage.proofs.Repaired.{repairs}
use Rattle.con_reply.specs.Delivery.{For, pieces}
use Rattle.con_reply.specs.Jobs.{loads}
use Rattle.theorems.specs.Salvage.{SalvagedLoads}
use Rattle.theorems.specs.Story.{Log, follow, untold}
use Rattle.theorems.specs.Types.{Reason}
use Rattle.theorems.proofs.JobStarted.{after}
use Rattle.theorems.proofs.SendsDelivered.{demand_3}
use Rattle.theorems.specs.Demand.{Demand3, job_of}

-- where all counted entries are readable no job ends Cut
never_cut : (entries got : List Bytes) (x : Option Reason) (figure : ℕ) → For entries (length entries) got x figure → x ≡ Some Reason.Cut → ⊥
never_cut entries got x figure h e = (subst (λ (y : Option Reason). For entries (length entries) got y figure) e h).2 refl

pub salvaged_loads : SalvagedLoads
unfolding SalvagedLoads Demand3
salvaged_loads lent earlier node mode old now later o e =
    let log : List Bytes → Log = λ es. follow es node untold (after lent earlier node (job_of (loads mode (repaired old))) now) later in
    let Sent : List Bytes → ℕ → Type 0 = λ es n. For es n (pieces (log es).story.asks) (log es).outcome (log es).figure in
    let r = repairs old o in
    let whole : Sent (readable_entries (repaired old)) (length (readable_entries (repaired old))) =
    subst (Sent (readable_entries (repaired old))) r.whole.counted (demand_3 lent earlier node (loads mode (repaired old)) now later e) in
    let h : Sent (readable_entries old) (length (readable_entries old)) = subst (λ (es : List Bytes). Sent es (length es)) r.entries whole in
    (never_cut _ _ _ _ h, h)
