-- What an upload brings (document 01, "The connection"): the one Expedited payload, or those of Segment and Complete since the last Initiate.
use Rattle.std.specs.Prelude.{[], ◌++◌}
use Rattle.codec.specs.Bytes.{Bytes}
use Rattle.connection.specs.Types.{Segmentation}

-- what was brought before, joined with the payload of one reply more
abbrev pub joined : Segmentation → Bytes → Bytes → Bytes
joined Segmentation.Expedited before payload = payload
joined Segmentation.Initiate before payload = []
joined Segmentation.Segment before payload = before ++ payload
joined Segmentation.Complete before payload = before ++ payload
