-- What the parts of a value's line come to.
use Rattle.std.specs.Prelude.{Option}
use Prim.Native.Nat.{ℕ, ◌≤◌}
use native.Mathlib.Omega.{arith}
use mathlib.Core.Path.{◌≡◌, refl, ap, ◌∙◌}
use mathlib.Core.List.{[]}
use lib.ListN.{length, take, drop, length-take}
use Rattle.codec.specs.Bytes.{Bytes}
use Rattle.codec.specs.declared.request.ReadByIndexRequest.{ReadByIndexRequest}
use Rattle.man_value.specs.declared.StorePart.{StorePart}
use Rattle.replay_line.specs.Types.{Answer}
use Rattle.replay_line.specs.Value.{value_text}

-- what is shown of a value is not long
pub few : (b : Bytes) {part : Bytes} → part ≡ take 4096 (drop 0 b) → length part ≤ 4096
few b e = let l = ap length e ∙ length-take 4096 b in omega arith

-- an answer without a value has no text
pub no_value : (answer : Answer) (number : ℕ) (b : Bytes) (object : Option ReadByIndexRequest) (store : Bytes)
    → ((part : StorePart) → answer ≡ Answer.Value part → ⊥) → [] ≡ value_text number b object answer store
no_value Answer.Nothing number b object store h = refl
no_value (Answer.Sent s) number b object store h = refl
no_value (Answer.Value part) number b object store h = absurd (h part refl)
no_value (Answer.Refused r) number b object store h = refl
