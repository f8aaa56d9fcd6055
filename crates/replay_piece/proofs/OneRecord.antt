-- One record: by a plan that moves the manager, and in place.
use Rattle.std.specs.Prelude.{Option, Some, None}
use Rattle.con_rec.specs.declared.SdoClientConnection.{SdoClientConnection}
use Rattle.con_rec.specs.declared.Reason.{Reason}
use Prim.Native.Nat.{ℕ, min, ◌+◌, ◌<◌, ◌≤◌}
use native.Mathlib.Omega.{arith}
use mathlib.Core.Path.{◌≡◌, refl, sym, ap, subst, ◌∙◌}
use mathlib.Core.Bool.{Bool, true, false}
use mathlib.Core.List.{◌++◌}
use lib.Dec.{eqb, ltb}
use lib.ListN.{length, length-take, set}
use borrow.Author.Tests.{eq-eqb, le-ltb, lt-ltb, ne_eqb}
use Rattle.laws.specs.Pick.{pick}
use Rattle.codec.specs.Bytes.{Bytes, placed}
use Rattle.con_rec.specs.Record.{end_with}
use Rattle.man_table.specs.Sweep.{end_here, no_ends}
use Rattle.man_table.specs.Table.{live}
use Rattle.replay_line.specs.Line.{line_of}
use Rattle.manager.specs.Calls.{After}
use Rattle.manager.specs.Change.{answering, number_after}
use Rattle.manager.specs.Plan.{plan_done}
use Rattle.manager.proofs.PlanCalls.{plan_keeps}
use Rattle.theorems.specs.InPlace.{Neat, Runs, Stays, in_place, put_in}
use Rattle.theorems.proofs.InPlace.{placed as placed-there}
use Rattle.theorems.proofs.Neat.{call_neat}
use Rattle.replay_record.proofs.RecordPlan.{plan_grants}
use Rattle.replay_record.specs.Request.{Asked, AskedPlan, Request, answers, asked_plan, calls, granted, record_asks}
use Rattle.replay_piece.specs.Moves.{entry_moves, moved_line, moved_run, moves}
use Rattle.replay_piece.specs.Piece.{Stand, after_record, run_of, stops, value_after}
use Rattle.replay_piece.specs.Whole.{shown}
use Rattle.replay_piece.specs.Types.{
  Change,
  Done,
  Entry,
  LastValue,
  Plan,
  Progress,
  RecordPlan,
  Run,
  SdoClientConnection,
  SdoClientManager,
  Settings,
  Shows,
}
use Rattle.replay_piece.proofs.PieceLeft.{Going, going_on, going_stops}

-- a request leaves a neat manager neat
pub granted_neat : (m : SdoClientManager) → Neat m → (store output : Bytes) (x : Request) → Neat (granted m store output x).done.manager
granted_neat m neat store output (calls x) = call_neat m neat store output x
granted_neat m neat store output (answers a) = neat

-- what does not move the manager can be done in place
runs_by : (d : SdoClientConnection) (x : Option Reason) → d.outcome ≡ x → end_here (end_with d x) false ≡ false → Runs d
runs_by d None e h = e
runs_by d (Some why) e h = let z : ◌≡◌ {A = ℕ} 0 1 = cc h in absurd (omega arith)

stays : (e : Entry) → entry_moves e ≡ false → Stays e
stays Entry.Nowhere f = tt
stays (Entry.At k d) f = runs_by d d.outcome refl f
stays (Entry.New d) f = let z : ◌≡◌ {A = ℕ} 0 1 = cc f in absurd (omega arith)

-- where a plan is not carried out by value, lines are shown
pub lines_only : (plan : Plan) (x : Shows) → moves x plan ≡ false → (x ≡ Shows.Lines) × (moves Shows.Lines plan ≡ false)
lines_only plan Shows.Lines h = (refl, h)
lines_only plan Shows.Values h = let z : ◌≡◌ {A = ℕ} 0 1 = cc h in absurd (omega arith)

-- a connection put at its place, or none, and the number after it
module _ (m : SdoClientManager) (change : Change) where
  abbrev numbered : SdoClientManager → ℕ → SdoClientManager
  numbered k number = record { connections = k.connections; count = k.count; next_transaction_id = number }

  pub put_at_lem : {k : SdoClientManager} {number place : ℕ} {c : SdoClientConnection} → change.entry ≡ Entry.At place c → place < m.count
      → k ≡ record { connections = set m.connections place c; count = m.count; next_transaction_id = m.next_transaction_id }
      → number ≡ number_after change k.next_transaction_id → numbered k number ≡ in_place m change
  unfolding number_after pick
  put_at_lem {place = place} e l f n = rw (e, n, f, lt-ltb place m.count l) refl

  pub put_past : {k : SdoClientManager} {number place : ℕ} {c : SdoClientConnection} → change.entry ≡ Entry.At place c → m.count ≤ place
      → k ≡ m → number ≡ number_after change k.next_transaction_id → numbered k number ≡ in_place m change
  unfolding number_after pick
  put_past {place = place} e l f n = rw (e, n, f, le-ltb place m.count l) refl

  put_none : (e : Entry) → ((place : ℕ) (c : SdoClientConnection) → e ≡ Entry.At place c → ⊥) → put_in e m.count m.connections ≡ m.connections
  put_none Entry.Nowhere never = refl
  put_none (Entry.At k c) never = absurd (never k c refl)
  put_none (Entry.New c) never = refl

  pub left_there : {k : SdoClientManager} {number : ℕ} → ((place : ℕ) (c : SdoClientConnection) → change.entry ≡ Entry.At place c → ⊥) → k ≡ m
      → number ≡ number_after change k.next_transaction_id → numbered k number ≡ in_place m change
  left_there never f n = rw (n, f, put_none change.entry never) refl

-- those held are eight at most
pub few_held : (m : SdoClientManager) → Neat m → length m.connections ≡ 8 → m.count ≤ 8
few_held m neat eight =
    let many : m.count ≡ length (live m) = ap (λ (x : SdoClientManager). x.count) neat.is in
    let t = length-take m.count m.connections in omega arith

-- where the loop stands
abbrev pub standing : SdoClientManager → Progress → Bytes → Bytes → Bytes → Bytes → Stand
standing m p store gather output text =
    record { run = run_of m p; store = store; gather = gather; output = output; text = text }

-- a record by what comes of it, under any name
module _ (settings : Settings) (m : SdoClientManager) (p : Progress) (store gather output text b : Bytes) where
  abbrev asked : Asked
  asked = record_asks p.gathered b settings.choices gather

  abbrev call : After
  call = granted m store output asked.request

  -- the last value after it
  abbrev value_on : After → Option LastValue
  value_on q = value_after q.done.ends.count q.done.answer (p.number + 1) p.value

  same_stand : (q : After) {gathered end : ℕ} {store' gather' text' : Bytes} → q ≡ call → store' ≡ q.store
      → gathered ≡ asked.gathered
      → end ≡ p.text + length (shown settings.shows (p.number + 1) b m q)
      → gather' ≡ asked.gather → text' ≡ placed text p.text (shown settings.shows (p.number + 1) b m q)
      → standing q.done.manager (record { gathered = gathered; number = p.number + 1; read = p.read + length b; text = end; value = value_on q }) store' gather' q.output text'
      ≡ after_record settings (standing m p store gather output text) b
  unfolding after_record
  same_stand q e s h k g t = rw (k, t, s, h, g, e) refl

module _ (settings : Settings) (m : SdoClientManager) (p : Progress) (store gather output text : Bytes) {first total : Stand} {bytes : ℕ} {left : Bytes}
    (g : Going settings first total bytes left (standing m p store gather output text)) where
  abbrev stand : Stand
  stand = standing m p store gather output text

  -- it stops at 65,535 records, and without room for a line
  pub last_record : p.number ≡ 65535 → stand ≡ total
  unfolding pick
  last_record h = going_stops settings g (rw (eq-eqb p.number 65535 h))

  pub no_room : length text < p.text + 8211 → stand ≡ total
  unfolding pick
  no_room h = going_stops settings g (either_way (eqb p.number 65535))
    where
      late : ltb (length text) (p.text + 8211) ≡ true
      late = lt-ltb (length text) (p.text + 8211) h

      either_way : (x : Bool) → pick x true (ltb (length text) (p.text + 8211)) ≡ true
      either_way true = refl
      either_way false = late

  module _ (few : p.number ≡ 65535 → ⊥) (room : p.text + 8211 ≤ length text) (b rest : Bytes) (cut : left ≡ b ++ rest) (size : length b ≡ min 32 (length left))
      (more : 0 < length left) (a : RecordPlan) {store' gather' output' : Bytes}
      (does : let x : AskedPlan = asked_plan m store output (record_asks p.gathered b settings.choices gather) in
      (a ≡ x.plan)
      × ((store' ≡ x.store)
      × ((gather' ≡ x.gather)
      × ((output' ≡ x.output)
      × ((length m.connections ≡ 8)
      × ((length store' ≡ length store) × ((length gather' ≡ length gather) × (length output' ≡ length output)))))))) where
    goes : stops stand ≡ false
    unfolding pick
    goes = rw (ne_eqb p.number 65535 few, le-ltb (length text) (p.text + 8211) (omega arith))

    abbrev here : After
    here = call settings m p store gather output text b

    called : plan_done a.plan m store' output' ≡ here
    called =
        rw (ap (λ (x : RecordPlan). x.plan) does.0, does.1.0, does.1.1.1.0)
        (plan_grants m store output (asked settings m p store gather output text b).request)

    after_neat : Neat (after_record settings stand b).run.manager
    unfolding after_record
    after_neat = granted_neat m g.neat store output (asked settings m p store gather output text b).request

    on_by : (q : After) {end : ℕ} {text' : Bytes} → q ≡ here → store' ≡ q.store
        → end ≡ p.text + length (shown settings.shows (p.number + 1) b m q)
        → text' ≡ placed text p.text (shown settings.shows (p.number + 1) b m q) → length q.output ≡ length output
        → length text' ≡ length text
        → Going settings first total bytes rest
        (standing q.done.manager
        (record {
          gathered = a.gathered;
          number = p.number + 1;
          read = p.read + length b;
          text = end;
          value = value_after q.done.ends.count q.done.answer (p.number + 1) p.value;
        })
        store' gather' q.output text')
    on_by q e s h t u v =
        going_on settings g b rest cut size more goes after_neat
        (record {
          store = does.1.1.1.1.1.0 ∙ g.sized.store;
          gather = does.1.1.1.1.1.1.0 ∙ g.sized.gather;
          output = u ∙ g.sized.output;
          text = v ∙ g.sized.text;
        })
        (same_stand settings m p store gather output text b q e s (ap (λ (x : RecordPlan). x.gathered) does.0)
        h does.1.1.0 t)

    -- by a plan that moves the manager
    abbrev counted : Run
    counted = run_of m (record { gathered = a.gathered; number = p.number + 1; read = p.read + length b; text = p.text; value = p.value })

    abbrev Moved : Run → Run → Bytes → Bytes → Type 0
    Moved run after out text' =
        (after ≡ moved_run run settings.shows a.plan b store' output')
        × ((out ≡ (plan_done a.plan run.manager store' output').output)
        × ((text' ≡ placed text run.progress.text (moved_line run settings.shows a.plan b store' output'))
        × ((length out ≡ length output') × (length text' ≡ length text))))

    pub moved_on_lem : {run after : Run} {out text' : Bytes} → run ≡ counted → Moved run after out text'
        → Going settings first total bytes rest (standing after.manager after.progress store' gather' out text')
    moved_on_lem {after = after} {out = out} {text' = text'} e h =
        let k : Moved counted after out text' = subst (λ (r : Run). Moved r after out text') e h in
        rw (k.0, k.1.0, k.1.1.0)
        (on_by (plan_done a.plan m store' output') called (plan_keeps a.plan m store' output') refl refl
        (ap length (sym k.1.0) ∙ k.1.1.1.0 ∙ does.1.1.1.1.1.1.1) (ap length (sym k.1.1.0) ∙ k.1.1.1.1))

    -- in place: lines are shown then
    module _ (change : Change) (one : a.plan ≡ Plan.Change change) (quiet : moves settings.shows a.plan ≡ false) where
      stay : Stays change.entry
      stay = stays change.entry (sym (ap (moves Shows.Lines) one) ∙ (lines_only a.plan settings.shows quiet).1)

      abbrev done_there : After
      done_there = record { done = answering (in_place m change) change.answer; store = store'; output = output' }

      put : done_there ≡ here
      put =
          ap (λ (d : Done). record { done = d; store = store'; output = output' }) (sym (placed-there m g.neat change stay))
          ∙ sym (ap (λ (t : Plan). plan_done t m store' output') one) ∙ called

      abbrev written : Bytes
      written = line_of (p.number + 1) b change.answer no_ends output'

      its_line : written ≡ shown settings.shows (p.number + 1) b m done_there
      its_line = ap (λ (x : Shows). shown x (p.number + 1) b m done_there) (sym (lines_only a.plan settings.shows quiet).0)

      pub quiet_on : {k : SdoClientManager} {end : ℕ} {text' : Bytes} → k ≡ in_place m change
          → (end ≡ p.text + length written) × ((text' ≡ placed text p.text written) × (length text' ≡ length text))
          → Going settings first total bytes rest
          (standing k (record { gathered = a.gathered; number = p.number + 1; read = p.read + length b; text = end; value = p.value })
          store' gather' output' text')
      unfolding value_after pick
      quiet_on e h =
          rw e
          (on_by done_there put refl (h.0 ∙ ap (λ (l : Bytes). p.text + length l) its_line) (h.1.0 ∙ ap (placed text p.text) its_line)
          does.1.1.1.1.1.1.1 h.1.1)
