-- `codec::command::put_head` meets its contract: the fixed eight bytes, and behind them an Initiate's data size.
use native.Mathlib.Omega.{arith}
use mathlib.Core.Path.{◌≡◌, sym}
use borrow.Author.Rules.{rules}
use denote.Enum.Bare.{same_false, same_true}
use Rattle.codec.specs.contracts.command.Segmentation.{the_type}
use Rattle.codec.specs.declared.command.Segmentation.{Segmentation}
use Rattle.codec.proofs.WrittenBytes.{fixed_fits, size_fits, head_alone, head_sized}
use Rattle.codec.proofs.command.put_head.Goals as goal

pub put_bytes-requires : goal.put_bytes-requires
put_bytes-requires c = rw c.fixed_octets-fixed.ensures (omega (arith, fixed_fits c.args.c))

pub put_bytes-requires-then-eq : goal.put_bytes-requires-then-eq
put_bytes-requires-then-eq c =
    let initiate : c.args.c.header.segmentation ≡ Segmentation.Initiate = same_true the_type (search rules) _ _ (sym c.if-eq.ensures) in
    rw c.size_octets-size.ensures (omega (arith, size_fits c.args.c initiate, c.put_bytes.auto.buffer))

pub returns-then-eq : goal.returns-then-eq
returns-then-eq c =
    head_sized _ _ _ _ c.fixed_octets-fixed.ensures c.put_bytes.ensures
    _ _ c.size_octets-size.ensures c.put_bytes-then-eq.ensures (same_true the_type (search rules) _ _ (sym c.if-eq.ensures))

pub returns-else-eq : goal.returns-else-eq
returns-else-eq c =
    head_alone _ _ _ _ c.fixed_octets-fixed.ensures c.put_bytes.ensures (same_false the_type _ _ (sym c.if-eq.ensures))
