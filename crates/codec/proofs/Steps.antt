-- A step that is no entry: what holds of the other two cases holds of it, and where it is readable it is the end.
use mathlib.Core.Path.{◌≡◌, refl}
use Rattle.codec.specs.declared.dcf.DcfCursor.{DcfCursor}
use Rattle.codec.specs.declared.dcf.DcfStep.{DcfStep}
use Rattle.codec.specs.declared.dcf.Transfer.{Transfer}

abbrev pub NoEntry : DcfStep → Type 0
NoEntry d = (entry : Transfer) (next : DcfCursor) → d ≡ DcfStep.Entry entry next → ⊥

pub unless_entry : (P : DcfStep → Type 0) (d : DcfStep) → NoEntry d → P DcfStep.End → P DcfStep.Unreadable → P d
unless_entry P (DcfStep.Entry entry next) never p q = absurd (never entry next refl)
unless_entry P DcfStep.End never p q = p
unless_entry P DcfStep.Unreadable never p q = q

pub only_end : (d : DcfStep) → NoEntry d → (d ≡ DcfStep.Unreadable → ⊥) → d ≡ DcfStep.End
only_end (DcfStep.Entry entry next) never readable = absurd (never entry next refl)
only_end DcfStep.End never readable = refl
only_end DcfStep.Unreadable never readable = absurd (readable refl)
