-- The edges, computed: each case is what the definitions make of it.
use mathlib.Core.Path.{◌≡◌, refl}
use mathlib.Core.List.{map}
use Rattle.laws.specs.Pick.{pick, among}
use Rattle.codec.specs.Sequence.{sequence_read}
use Rattle.theorems.specs.Edges.{table, published, made}

pub edges : map made table ≡ table
unfolding pick among sequence_read
edges = refl

pub published_edges : map made published ≡ published
unfolding pick among
published_edges = refl
