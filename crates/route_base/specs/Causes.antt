-- Causes of faults: those that a file's contents can have (source: own).
use Rattle.std.specs.Prelude.{⊤}
use Rattle.route_base.specs.declared.faults.Cause.{Cause}
use Rattle.route_base.specs.declared.faults.Cause.TheVariants.{Missing, TooLong}

-- a cause that bytes can have, whether or not the file is there and however long it is
abbrev pub IsOfContents : Cause → Type 0
IsOfContents Missing = ⊥
IsOfContents TooLong = ⊥
IsOfContents other = ⊤
