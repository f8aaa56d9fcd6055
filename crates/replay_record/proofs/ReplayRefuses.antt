-- The replay's reading of a record and its gather go by their checks, so each refusal is given exactly when document 01's column says.
use Rattle.std.specs.Prelude.{Option, Some, None, Result, Ok, Err}
use Prim.Native.Nat.{ℕ, ◌+◌, ◌≤◌, ◌<◌}
use native.Mathlib.Omega.{arith}
use mathlib.Core.Path.{◌≡◌, refl, ap, ◌∙◌}
use mathlib.Core.List.{List, [], ◌∷◌}
use mathlib.Core.Logic.{inl, inr}
use lib.Dec.{eqb, ltb}
use lib.ListN.{length, length-take, length-drop}
use borrow.Author.Tests.{eqb-true, eqb-false, ltb-true, ltb-false}
use Rattle.laws.proofs.Checks.{Answers, exactly, refuses_below, told_by_lem}
use Rattle.laws.proofs.Choices.{decided}
use Rattle.laws.proofs.Numbers.{at_least}
use Rattle.laws.specs.Checks.{Check, check}
use Rattle.codec.proofs.ReadCases.{part_inside}
use Rattle.codec.specs.Bytes.{Bytes, part_at}
use Rattle.replay_record.specs.Causes.{ReplayRefuses, ask_checks, gather_checks, length_in, operation_in, record_checks, refused_by}
use Rattle.replay_record.specs.Gather.{already_gathered, gather_size, gathered_with, most_gathered}
use Rattle.replay_record.specs.Record.{operation_of, own_data, record_named, record_read}
use Rattle.replay_record.specs.Request.{Asked, Request, answers, calls, operation_asks, read_asks, record_asks, when_of}
use Rattle.replay_record.specs.Types.{Answer, Choices, Gathered, Mode, Now, Operation, Record, Refusal}

-- ---- the operation of a number: 1 to 7, and 7 is the gather
abbrev GatherAt : ℕ → Operation → Type 0
GatherAt n (Operation.Uses u) = n ≡ 7 → ⊥
GatherAt n Operation.Read = n ≡ 7 → ⊥
GatherAt n (Operation.Turns t) = n ≡ 7 → ⊥
GatherAt n Operation.Gather = n ≡ 7

abbrev OneToSeven : ℕ → Type 0
OneToSeven n = (1 ≤ n) × (n ≤ 7)

abbrev NamedBy : ℕ → Option Operation → Type 0
NamedBy n (Some o) = OneToSeven n × GatherAt n o
NamedBy n None = OneToSeven n → ⊥

operation_named : (n : ℕ) → NamedBy n (operation_of n)
unfolding operation_of
operation_named n =
    decided P (eqb n 1) _ _ (λ h. let e = eqb-true n 1 h in ((omega arith, omega arith), λ z. omega arith)) (λ h1.
    decided P (eqb n 2) _ _ (λ h. let e = eqb-true n 2 h in ((omega arith, omega arith), λ z. omega arith)) (λ h2.
    decided P (eqb n 3) _ _ (λ h. let e = eqb-true n 3 h in ((omega arith, omega arith), λ z. omega arith)) (λ h3.
    decided P (eqb n 4) _ _ (λ h. let e = eqb-true n 4 h in ((omega arith, omega arith), λ z. omega arith)) (λ h4.
    decided P (eqb n 5) _ _ (λ h. let e = eqb-true n 5 h in ((omega arith, omega arith), λ z. omega arith)) (λ h5.
    decided P (eqb n 6) _ _ (λ h. let e = eqb-true n 6 h in ((omega arith, omega arith), λ z. omega arith)) (λ h6.
    decided P (eqb n 7) _ _ (λ h. let e = eqb-true n 7 h in ((omega arith, omega arith), e)) (λ h7 z.
    let past : 8 ≤ n =
    at_least n 8 (
      (
        (
          (((((tt, λ e. let k = z.0 in omega arith), eqb-false n 1 h1), eqb-false n 2 h2), eqb-false n 3 h3), eqb-false n 4 h4),
          eqb-false n 5 h5,
        ),
        eqb-false n 6 h6,
      ),
      eqb-false n 7 h7,
    ) in
    let most = z.1 in omega arith)))))))
  where
    P : Option Operation → Type 0
    P = NamedBy n

-- ---- a record: what is known of one that is read
module _ (b : Bytes) where
  abbrev Read : Result Record Refusal → Type 0
  Read (Ok r) =
      (32 ≤ length b) × (length_in b ≤ 16) × (r.length ≡ length_in b) × GatherAt (operation_in b) r.operation
  Read (Err r) = ⊥

  abbrev bad_checks : List (Check Refusal)
  bad_checks = check Refusal.BadRecord (OneToSeven (operation_in b) → ⊥) ∷ check Refusal.BadRecord (16 < length_in b) ∷ []

  named_goes : 32 ≤ length b → (o : Option Operation) → NamedBy (operation_in b) o → Answers Err Read bad_checks (record_named b o)
  named_goes whole None h = inl (h, refl)
  named_goes whole (Some o) h =
      inr (λ z. z h.0, refuses_below Err Read [] _ 16 (length_in b) (λ e. (whole, e, refl, h.1)))

  record_goes : Answers Err Read (record_checks b) (record_read b)
  unfolding record_read
  record_goes =
      refuses_below Err Read bad_checks _ (length b) 32
      (λ e. named_goes e (operation_of (operation_in b)) (operation_named (operation_in b)))

-- ---- a gather
abbrev Gathers : Answer → Type 0
Gathers Answer.Nothing = Unit {0}
Gathers (Answer.Sent s) = Unit {0}
Gathers (Answer.Value part) = Unit {0}
Gathers (Answer.Refused r) = ⊥

gather_goes : (already more : ℕ) → Answers Answer.Refused Gathers (gather_checks already more) (gathered_with already more).answer
unfolding gathered_with
gather_goes already more =
    decided (λ (g : Gathered). Answers Answer.Refused Gathers (gather_checks already more) g.answer) (ltb most_gathered (already + more)) _ _
    (λ e. inl (ltb-true _ _ e, refl))
    (λ e. let k : already + more ≤ most_gathered = ltb-false _ _ e in inr (λ z. omega arith, tt))

-- ---- what a record asks for
abbrev Asks : Request → Type 0
Asks (calls x) = Unit {0}
Asks (answers a) = Gathers a

-- the data of a record that is read are as long as it says
own_length : (b : Bytes) (n : ℕ) → 16 + n ≤ length b → length (part_at b 16 n) ≡ n
own_length b n h = rw (← part_inside b 16 n h, length-take, length-drop) (omega arith)

module _ (gathered : ℕ) (b : Bytes) (choices : Choices) (gather : Bytes) where
  abbrev already : ℕ
  already = already_gathered gathered

  abbrev GatherCause : Type 0
  GatherCause = (operation_in b ≡ 7) × (most_gathered < already + length_in b)

  operation_goes : (o : Operation) (mode : Mode) (r : Record) (n : Now) (own : Bytes) → GatherAt (operation_in b) o → length own ≡ length_in b
      → Answers refused_by Asks (check Refusal.NoRoom GatherCause ∷ []) (operation_asks o mode r already n own gather).request
  operation_goes (Operation.Uses u) mode r n own h e = inr (λ z. h z.0, tt)
  operation_goes Operation.Read mode r n own h e = inr (λ z. h z.0, tt)
  operation_goes (Operation.Turns t) mode r n own h e = inr (λ z. h z.0, tt)
  operation_goes Operation.Gather mode r n own h e = rw e (go (gathered_with already (length_in b)).answer (gather_goes already (length_in b)))
    where
      go : (a : Answer) → Answers Answer.Refused Gathers (gather_checks already (length_in b)) a
          → Answers refused_by Asks (check Refusal.NoRoom GatherCause ∷ []) (answers a)
      go a (inl k) = inl ((h, k.0), ap answers k.1)
      go a (inr k) = inr (λ z. k.0 z.1, k.1)

  ask_goes : Answers refused_by Asks (ask_checks gathered b gather) (record_asks gathered b choices gather).request
  unfolding record_asks
  ask_goes =
      decided (λ (x : Asked). Answers refused_by Asks (ask_checks gathered b gather) x.request) (ltb (length gather) gather_size) _ _
      (λ e. inl (ltb-true _ _ e, refl))
      (λ e. let k : gather_size ≤ length gather = ltb-false _ _ e in inr (
        λ z. omega arith,
        told_by_lem Err (Read b) refused_by Asks (λ x. (read_asks x already b choices gather).request) (λ r. refl)
            (record_checks b) (check Refusal.NoRoom GatherCause ∷ []) (record_read b) (go (record_read b)) (record_goes b),
      ))
    where
      go : (x : Result Record Refusal) → Read b x
          → Answers refused_by Asks (check Refusal.NoRoom GatherCause ∷ []) (read_asks x already b choices gather).request
      go (Ok r) h =
          let e = h.2 in
          let inside : 16 + r.length ≤ length b = let k = h.0 in let l = h.1 in omega arith in
          operation_goes r.operation choices.mode r (when_of r choices) (own_data b r) h.3 (own_length b r.length inside ∙ e)
      go (Err r) h = absurd h

pub replay_refuses : ReplayRefuses
replay_refuses =
    record {
      record_read_lem = λ b. exactly Err (Read b) (λ r u. u) (λ r s e. cc) (record_checks b) _ (record_goes b);
      gather_more = λ already more. exactly Answer.Refused Gathers (λ r u. u) (λ r s e. cc) (gather_checks already more) _ (gather_goes already more);
      record_asks_lem = λ gathered b choices gather.
          exactly refused_by Asks (λ r u. u) (λ r s e. cc) (ask_checks gathered b gather) _ (ask_goes gathered b choices gather);
    }
