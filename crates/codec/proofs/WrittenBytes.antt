-- What a write to the start of a buffer comes to, refused and done, and how a command's bytes are put there.
use Rattle.std.specs.Prelude.{Option, Some, None, Ok, Err}
use Prim.Native.Nat.{ℕ, ◌+◌, ◌<◌, ◌≤◌}
use native.Mathlib.Nat.{zero-add}
use native.Mathlib.Omega.{arith}
use mathlib.Core.Path.{◌≡◌, refl, sym, ◌∙◌}
use mathlib.Core.List.{[], ◌∷◌, ◌++◌, append_assoc}
use lib.ListN.{length, take, drop, set, length-append, length-take, length-drop}
use lib.Seq.{sets-eq, take_at, drop-append-add, drop-drop}
use Rattle.laws.proofs.Picks.{within, beyond}
use Rattle.codec.specs.Bytes.{Bytes, placed}
use Rattle.codec.specs.Command.{fixed_head, size_octets, after_head, command_head, command_bytes, head_length}
use Rattle.codec.specs.Writing.{written, buffer_after, put_answer, put_buffer}
use Rattle.codec.specs.declared.command.SdoCommand.{SdoCommand}
use Rattle.codec.specs.declared.command.Segmentation.{Segmentation}
use Rattle.codec.specs.declared.refusal.Refusal.{Refusal}

-- bytes put within others leave their number
pub placed_length : (b : Bytes) (at : ℕ) (a : Bytes) → at + length a ≤ length b → length (placed b at a) ≡ length b
unfolding placed
placed_length b at a h = rw (length-append, length-append, length-take, length-drop) (omega arith)

module _ (bytes buffer : Bytes) where
  pub write_refused : length buffer < length bytes
      → (Err Refusal.BufferTooShort ≡ written bytes buffer) × (buffer ≡ buffer_after bytes buffer)
  unfolding written buffer_after
  write_refused h = (beyond _ _ _ _ h refl, beyond _ _ _ _ h refl)

  pub write_done : (n : ℕ) (after : Bytes) → n ≡ length bytes → length bytes ≤ length buffer
      → after ≡ bytes ++ drop (length bytes) buffer
      → (Ok n ≡ written bytes buffer) × (after ≡ buffer_after bytes buffer)
  unfolding written buffer_after
  write_done n after e h k = (within _ _ _ _ h (rw e), within _ _ _ _ h k)

-- bytes put at a place, refused and done
module _ (buffer : Bytes) (at : ℕ) (bytes : Bytes) where
  pub put_refused : length buffer < at + length bytes
      → (Err Refusal.BufferTooShort ≡ put_answer buffer at bytes) × (buffer ≡ put_buffer buffer at bytes)
  unfolding put_answer put_buffer
  put_refused h = (beyond _ _ _ _ h refl, beyond _ _ _ _ h refl)

  pub put_done : (after : Bytes) → at + length bytes ≤ length buffer → after ≡ placed buffer at bytes
      → (Ok (length bytes) ≡ put_answer buffer at bytes) × (after ≡ put_buffer buffer at bytes)
  unfolding put_answer put_buffer
  put_done after h e = (within _ _ _ _ h refl, within _ _ _ _ h e)

-- four stores in a row write four bytes
pub write_four : (bytes buffer : Bytes) (a b c d : ℕ) → 4 ≤ length buffer → a ∷ b ∷ c ∷ d ∷ [] ≡ bytes
    → (Ok 4 ≡ written bytes buffer) × (set (set (set (set buffer 0 a) 1 b) 2 c) 3 d ≡ buffer_after bytes buffer)
write_four bytes buffer a b c d h e =
    rw (← e) (write_done (a ∷ b ∷ c ∷ d ∷ []) buffer 4 _ refl h (sets-eq (a ∷ b ∷ c ∷ d ∷ []) buffer 0 h))

-- what is put at the start, and one copy right behind another, which is one copy of both
pub placed_front : (buffer bytes : Bytes) → placed buffer 0 bytes ≡ bytes ++ drop (length bytes) buffer
unfolding placed
placed_front buffer bytes = rw zero-add

pub placed_more : (buffer a b : Bytes) (at : ℕ) → at ≡ length a → placed (placed buffer 0 a) at b ≡ placed buffer 0 (a ++ b)
unfolding placed
placed_more buffer a b at e =
    let t : take at (a ++ drop (length a) buffer) ≡ a = take_at a (drop (length a) buffer) at (sym e) in
    let u : drop (at + length b) (a ++ drop (length a) buffer) ≡ drop (length (a ++ b)) buffer =
    rw (e, drop-append-add, drop-drop, length-append) in
    rw (placed_front buffer a, placed_front buffer (a ++ b), t, u, append_assoc a b)

-- bytes that fit are put, and put at the start they are a write
pub put_fits : (buffer bytes : Bytes) (at : ℕ) → at + length bytes ≤ length buffer → put_buffer buffer at bytes ≡ placed buffer at bytes
unfolding put_buffer
put_fits buffer bytes at h = sym (within _ _ _ _ h refl)

pub put_front : (buffer bytes : Bytes)
    → (put_answer buffer 0 bytes ≡ written bytes buffer) × (put_buffer buffer 0 bytes ≡ buffer_after bytes buffer)
unfolding put_answer put_buffer written buffer_after
put_front buffer bytes = (rw zero-add, rw (placed_front, zero-add))

-- what is put at the start is what a write leaves
pub write_placed : (bytes buffer : Bytes) (n : ℕ) (after : Bytes) → n ≡ length bytes → n ≤ length buffer → after ≡ placed buffer 0 bytes
    → (Ok n ≡ written bytes buffer) × (after ≡ buffer_after bytes buffer)
write_placed bytes buffer n after e h k = write_done bytes buffer n after e (rw e at h) (k ∙ placed_front buffer bytes)

-- only an Initiate has a data size
no_size : (s : Segmentation) (d : Option ℕ) → (s ≡ Segmentation.Initiate → ⊥) → after_head s d ≡ []
no_size Segmentation.Expedited d other = refl
no_size Segmentation.Initiate d other = absurd (other refl)
no_size Segmentation.Segment d other = refl
no_size Segmentation.Complete d other = refl

-- a command's head, by its segmentation, and the lengths of its bytes
module _ (c : SdoCommand) where
  -- a head has room for its fixed bytes, and an Initiate's for its data size behind them
  pub fixed_fits : length (fixed_head c.header) ≤ length (command_head c)
  unfolding command_head
  fixed_fits = rw length-append (omega arith)

  sized_head : c.header.segmentation ≡ Segmentation.Initiate
      → after_head c.header.segmentation c.data_size ≡ size_octets c.data_size
  sized_head e = rw e

  pub size_fits : c.header.segmentation ≡ Segmentation.Initiate → 8 + length (size_octets c.data_size) ≡ length (command_head c)
  unfolding command_head
  size_fits e = rw (length-append, sized_head e)

  -- the fixed bytes put first, and behind them an Initiate's data size
  module _ (fixed buffer first : Bytes) (e : fixed ≡ fixed_head c.header) (f : first ≡ placed buffer 0 fixed) where
    pub head_alone : (c.header.segmentation ≡ Segmentation.Initiate → ⊥) → first ≡ placed buffer 0 (command_head c)
    unfolding command_head
    head_alone other = rw (f, e, no_size c.header.segmentation c.data_size other)

    pub head_sized : (size after : Bytes) → size ≡ size_octets c.data_size → after ≡ placed first 8 size
        → c.header.segmentation ≡ Segmentation.Initiate → after ≡ placed buffer 0 (command_head c)
    unfolding command_head
    head_sized size after g h initiate =
        h ∙ rw (f, g, e, sized_head initiate) (placed_more buffer (fixed_head c.header) (size_octets c.data_size) 8 refl)

  head_length_of : (s : Segmentation) (d : Option ℕ) → length (after_head s d) + 8 ≡ head_length s
  head_length_of Segmentation.Expedited d = refl
  head_length_of Segmentation.Initiate (Some n) = refl
  head_length_of Segmentation.Initiate None = refl
  head_length_of Segmentation.Segment d = refl
  head_length_of Segmentation.Complete d = refl

  pub head_length_lem : length (command_head c) ≡ head_length c.header.segmentation
  unfolding command_head
  head_length_lem = rw length-append (omega (arith, head_length_of c.header.segmentation c.data_size))

  pub bytes_length : (payload : Bytes) → length (command_bytes c payload) ≡ head_length c.header.segmentation + length payload
  unfolding command_bytes
  bytes_length payload = rw (length-append, head_length_lem)

  -- the head put first and the payload behind it
  pub command_written : (payload buffer first after : Bytes) (start : ℕ) → start ≡ head_length c.header.segmentation
      → start + length payload ≤ length buffer → first ≡ placed buffer 0 (command_head c) → after ≡ placed first start payload
      → (Ok (start + length payload) ≡ written (command_bytes c payload) buffer)
      × (after ≡ buffer_after (command_bytes c payload) buffer)
  unfolding command_bytes
  command_written payload buffer first after start e h f g =
      let l : length (command_head c) ≡ start = head_length_lem ∙ sym e in
      write_placed (command_head c ++ payload) buffer (start + length payload) after
      (rw (length-append, l)) h (rw (g, f) (placed_more buffer (command_head c) payload start (sym l)))
