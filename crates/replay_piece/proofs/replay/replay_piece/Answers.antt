-- `replay_piece::replay::replay_piece` meets its contract: each turn goes on by one record, and where the loop stops the piece is done.
use native.Mathlib.Omega.{arith}
use Prim.Native.Nat.{ℕ, ◌+◌, ◌-◌, ◌<◌, ◌≤◌}
use mathlib.Core.Path.{◌≡◌, refl, sym, ap, ◌∙◌}
use lib.ListN.{length}
use borrow.Author.Rules.{rules}
use Rattle.codec.specs.Bytes.{Bytes}
use Rattle.man_table.specs.Sweep.{running}
use Rattle.man_table.specs.Table.{live, table_of}
use Rattle.theorems.proofs.Neat.{swept_neat}
use Rattle.replay_piece.specs.Piece.{Stand, piece_of, replayed, stand_at}
use Rattle.replay_piece.specs.Types.{Run, SdoClientManager, Settings}
use Rattle.replay_piece.proofs.LineRoom.{has_room, line_told}
use Rattle.replay_piece.proofs.PieceLeft.{going_begins, going_ends}
use Rattle.replay_piece.proofs.OneRecord.{last_record, left_there, moved_on_lem, no_room, put_at_lem, put_past, quiet_on}
use Rattle.replay_piece.proofs.replay.replay_piece.Goals as goal
use Rattle.replay_piece.proofs.replay.replay_piece.Goals.{in-At+then-place-m, in-At+else-place-m, in_default-entry, then-r-via-then-r, then-r-via-else-r+then-full-r}

-- room for a line, and none
module _ {full len size text : ℕ} (e : full ≡ len - 8210) (same : size ≡ len) where
  roomy : text < full → text + 8211 ≤ size
  roomy h = omega (arith, e, same)

  crowded : full ≤ text → size < text + 8211
  crowded h = omega (arith, e, same)

pub loop-b-init : goal.loop-b-init
loop-b-init c =
    let m = c.args.run.manager in
    record {
      size = search rules;
      going =
          rw (c.into_iter-b-iterator.ensures.into_iter_gives, c.chunks-b-items.ensures.rest)
          (going_begins _ _ _ (rw c.swept-m.ensures (swept_neat (live m) m.next_transaction_id)) refl);
    }

pub loop-b-preserved-then-moves : goal.loop-b-preserved-then-moves
loop-b-preserved-then-moves c =
    let l = c.loop-b in
    let a = c.args in
    let steps = c.in-Some.ensures.steps in
    record {
      size = steps.0 ∙ l.invariant.size;
      going = moved_on_lem a.settings l.m l.r l.store l.gather l.output l.text l.invariant.going c.if-r.false
          (roomy c.saturating_sub-full.ensures l.invariant.going.sized.text c.if-full-r.false)
          _ _ steps.1.0 (rw l.invariant.size at steps.1.1) steps.1.2
          c.plan_of-plan.result (
            c.plan_of-plan.ensures.value,
            (c.plan_of-plan.ensures.store_after, (c.plan_of-plan.ensures.gather_after, (c.plan_of-plan.ensures.output_after, (c.plan_of-plan.ensures.connections_len, c.plan_of-plan.ensures.lengths_unchanged)))),
          )
          refl (
            c.moved-after.ensures.value,
            (c.moved-after.ensures.output_after, (c.moved-after.ensures.text_after, c.moved-after.ensures.lengths_unchanged)),
          );
    }

pub unwrap-requires : goal.unwrap-requires
unwrap-requires c =
    has_room _ _ _ (roomy c.saturating_sub-full.ensures c.loop-b.invariant.going.sized.text c.if-full-r.false) _ c.write_quiet_line.ensures.value

pub loop-b-preserved : goal.loop-b-preserved
loop-b-preserved c =
    let l = c.loop-b in
    let a = c.args in
    let steps = c.in-Some.ensures.steps in
    record {
      size = steps.0 ∙ l.invariant.size;
      going = quiet_on a.settings l.m l.r l.store l.gather l.output l.text l.invariant.going c.if-r.false
          (roomy c.saturating_sub-full.ensures l.invariant.going.sized.text c.if-full-r.false)
          _ _ steps.1.0 (rw l.invariant.size at steps.1.1) steps.1.2
          c.plan_of-plan.result (
            c.plan_of-plan.ensures.value,
            (c.plan_of-plan.ensures.store_after, (c.plan_of-plan.ensures.gather_after, (c.plan_of-plan.ensures.output_after, (c.plan_of-plan.ensures.connections_len, c.plan_of-plan.ensures.lengths_unchanged)))),
          )
          c.in-Change.change c.in-Change.is (sym c.moves.ensures ∙ c.if-moves.false)
          (elim c.match-change.branch [
            | in-At+then-place-m w ↦ put_at_lem _ _ w.in-At.is w.if-place-m.true w.m-is c.number_after.ensures
            | in-At+else-place-m w ↦ put_past _ _ w.in-At.is w.if-place-m.false w.m-is c.number_after.ensures
            | in_default-entry w ↦ left_there _ _ w.in_default-entry.not-At w.m-is c.number_after.ensures
          ])
          (line_told _ _ _ (roomy c.saturating_sub-full.ensures l.invariant.going.sized.text c.if-full-r.false) _ c.write_quiet_line.ensures.value
          c.unwrap.ensures c.write_quiet_line.ensures.short c.write_quiet_line.ensures.out_after);
    }

-- where the loop stops the piece is done
done : (run : Run) (settings : Settings) (input store gather output text : Bytes) {m : SdoClientManager} {s : Stand}
    → m ≡ table_of (running (live run.manager)) run.manager.next_transaction_id
    → s ≡ replayed settings (length input) (stand_at m run.progress 0 store gather output text) input
    → let t : Stand = piece_of run settings input store gather output text in
    record {
      value : s.run ≡ t.run;
      store_after : s.store ≡ t.store;
      gather_after : s.gather ≡ t.gather;
      output_after : s.output ≡ t.output;
      text_after : s.text ≡ t.text;
    }
done run settings input store gather output text e h =
    let f =
    h
    ∙ ap
    (λ (k : SdoClientManager). replayed settings (length input) (stand_at k run.progress 0 store gather output text) input)
    e in
    record {
      value = ap (λ (x : Stand). x.run) f;
      store_after = ap (λ (x : Stand). x.store) f;
      gather_after = ap (λ (x : Stand). x.gather) f;
      output_after = ap (λ (x : Stand). x.output) f;
      text_after = ap (λ (x : Stand). x.text) f;
    }

pub returns-in-None : goal.returns-in-None
returns-in-None c =
    let a = c.args in
    done a.run a.settings a.input.now a.store.now a.gather.now a.output.now a.text.now c.swept-m.ensures
    (going_ends _ c.loop-b.invariant.going c.in-None.ensures.steps.1.0)

pub returns-then-r : goal.returns-then-r
returns-then-r c =
    let a = c.args in
    let l = c.loop-b in
    done a.run a.settings a.input.now a.store.now a.gather.now a.output.now a.text.now c.swept-m.ensures
    (elim c.then-r.branch [
      | then-r-via-then-r w ↦ last_record a.settings l.m l.r l.store l.gather l.output l.text l.invariant.going w.if-r.true
      | then-r-via-else-r+then-full-r w ↦
          no_room a.settings l.m l.r l.store l.gather l.output l.text l.invariant.going
          (crowded c.saturating_sub-full.ensures l.invariant.going.sized.text w.if-full-r.true)
    ])
