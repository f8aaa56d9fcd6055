-- A read, of any calls: it is followed, and its figure is 0.
use Rattle.std.specs.Prelude.{Option, Some, None, Result, Ok, Err, OnSome}
use Prim.Native.Nat.{ℕ}
use native.Mathlib.Omega.{arith}
use mathlib.Core.Path.{◌≡◌, refl, sym, ◌∙◌, subst}
use mathlib.Core.List.{List, []}
use Rattle.codec.specs.Bytes.{Bytes}
use Rattle.manager.specs.Calls.{reads}
use Rattle.theorems.specs.Quiet.{Held, Holding, holding}
use Rattle.theorems.specs.Run.{Event, Host, run}
use Rattle.theorems.specs.Story.{Log, follow, untold}
use Rattle.theorems.specs.Types.{Answer, Mode, Now, Reason, Refusal, SdoClientConnection}
use Rattle.theorems.proofs.Followed.{Brings}
use Rattle.theorems.proofs.JobStarted.{after, brings, running, start, started}
use Rattle.theorems.proofs.JobStarts.{began}
use Rattle.theorems.proofs.SendsDelivered.{NoneReadable}
use Rattle.theorems.proofs.ReadsKept.{ReadsEnd, ReadsRun, reads_kept}

module _ (lent : Bytes) (earlier : List Event) (node : ℕ) (mode : Mode) (index sub : ℕ) (now : Now)
    (e : (start lent earlier node (reads mode index sub) now).done.answer ≡ Answer.Nothing) where
  abbrev Reads-so : Result SdoClientConnection Refusal → Type 0
  Reads-so (Ok d) = ReadsRun index sub untold (started lent earlier node (reads mode index sub) now e).room d.state d.job
  Reads-so (Err r) = Unit {0}

  reading : Reads-so (Ok (started lent earlier node (reads mode index sub) now e).begun)
  reading =
      let s = started lent earlier node (reads mode index sub) now e in
      subst Reads-so (began (reads mode index sub) s.before s.begun s.number now s.room s.is).2
      (record {
        reads = tt;
        pending = refl;
        unloaded = refl;
        left = refl;
        figure = refl;
        counts = refl;
        fits = omega arith;
        bytes = refl;
      })

  abbrev Read : Log → Host → Type 0
  Read l h = Brings [] (ReadsRun index sub) (ReadsEnd index sub) (reads_kept index sub) node l h

  module _ (later : List Event) where
    abbrev log : Log
    log = follow [] node untold (after lent earlier node (reads mode index sub) now) later

    abbrev host : Host
    host = run (after lent earlier node (reads mode index sub) now) later

    pub read_brings : Read log host
    read_brings = brings lent earlier node (reads mode index sub) now e [] (ReadsRun index sub) (ReadsEnd index sub) (reads_kept index sub) reading later

    pub read_figure : OnSome log.outcome ((log.figure ≡ log.story.delivered) × (log.figure ≡ 0))
    read_figure = go log.outcome read_brings
      where
        go : (x : Option Reason) → Read (record { story = log.story; outcome = x; figure = log.figure }) host
            → OnSome x ((log.figure ≡ log.story.delivered) × (log.figure ≡ 0))
        go None b = tt
        go (Some why) b =
            let f : log.figure ≡ 0 = b.over.figure_is ∙ b.over.ends.0 in (f ∙ sym b.over.ends.1, f)

    -- nothing is readable, for none is counted
    pub read_no_self_call : log.outcome ≡ None → Held (holding host.manager host.store node) NoneReadable
    read_no_self_call r =
        let x = running log host read_brings r in
        subst (λ (k : Holding). Held k NoneReadable) (sym x.held) (λ u. rw x.on.is.left refl)
