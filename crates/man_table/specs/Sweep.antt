-- Ended connections are removed; one call reports up to eight ends, ascending (document 01, "The manager").
use Rattle.std.specs.Prelude.{◌-◌, Bool, true, false, List, [], ◌∷◌, ◌++◌, length, replicate, Option, Some, None}
use Rattle.con_rec.specs.Record.{end_of}
use Rattle.man_table.specs.Types.{End, Ends, Reason, SdoClientConnection}

-- those that run on
abbrev pub unless_end : Option End → SdoClientConnection → List SdoClientConnection → List SdoClientConnection
unless_end None c l = c ∷ l
unless_end (Some e) c l = l

abbrev pub running : List SdoClientConnection → List SdoClientConnection
running [] = []
running (c ∷ l) = unless_end (end_of c) c (running l)

-- the ends of those that ended
abbrev pub with_end : Option End → List End → List End
with_end None l = l
with_end (Some e) l = e ∷ l

abbrev pub ends_in : List SdoClientConnection → List End
ends_in [] = []
ends_in (c ∷ l) = with_end (end_of c) (ends_in l)

-- whether one ended
abbrev pub end_here : Option End → Bool → Bool
end_here None rest = rest
end_here (Some e) rest = true

abbrev pub any_end : List SdoClientConnection → Bool
any_end [] = false
any_end (c ∷ l) = end_here (end_of c) (any_end l)

-- a list of ends in eight places, blank after it
abbrev pub no_end : End
no_end = record { node = 0; reason = Reason.Complete; delivered = 0 }

abbrev pub ends_of : List End → Ends
ends_of l = record { list = l ++ replicate (8 - length l) no_end; count = length l }

abbrev pub no_ends : Ends
no_ends = ends_of []
