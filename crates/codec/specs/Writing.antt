-- Writing to the start of a buffer: all of the bytes where they fit, and the rest of the buffer as it was; or refusal 1, and not one
-- byte is written.
use Rattle.std.specs.Prelude.{ℕ, ◌+◌, ◌++◌, leb, length, drop, Result, Ok, Err}
use Rattle.laws.specs.Pick.{pick}
use Rattle.codec.specs.Bytes.{Bytes, placed}
use Rattle.codec.specs.declared.refusal.Refusal.{Refusal}

-- the answer
unfoldable pub written : Bytes → Bytes → Result ℕ Refusal
written bytes buffer =
    pick (leb (length bytes) (length buffer)) (Ok (length bytes)) (Err Refusal.BufferTooShort)

-- the buffer as it is left
unfoldable pub buffer_after : Bytes → Bytes → Bytes
buffer_after bytes buffer =
    pick (leb (length bytes) (length buffer)) (bytes ++ drop (length bytes) buffer) buffer

-- Putting bytes into a buffer from a place on: all of them where they lie within it, or refusal 1 and none.
unfoldable pub put_answer : Bytes → ℕ → Bytes → Result ℕ Refusal
put_answer buffer at bytes =
    pick (leb (at + length bytes) (length buffer)) (Ok (length bytes)) (Err Refusal.BufferTooShort)

unfoldable pub put_buffer : Bytes → ℕ → Bytes → Bytes
put_buffer buffer at bytes = pick (leb (at + length bytes) (length buffer)) (placed buffer at bytes) buffer
