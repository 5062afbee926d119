-- Statuses: the numbers with which the program ends (source: own).
use Rattle.std.specs.Prelude.{ℕ}
use Rattle.route_base.specs.declared.status.Status.{Status}
use Rattle.route_base.specs.declared.status.Status.TheVariants.{Done, Rejected, Usage, BadInput, ReadFault, WriteFault, NoMemory, BadRequest}

-- the number of a status
abbrev pub code_of : Status → ℕ
code_of Done = 0
code_of Rejected = 1
code_of Usage = 2
code_of BadInput = 3
code_of ReadFault = 4
code_of WriteFault = 5
code_of NoMemory = 6
code_of BadRequest = 7
