-- The lines of refusals (source: own).
use Rattle.std.specs.Prelude.{ℕ, List, ◌++◌, codes, decimal}
use Rattle.route_base.specs.Labels.{label_of, cause_name_of, request_fault_name_of}
use Rattle.route_base.specs.declared.faults.BadInput.{BadInput}
use Rattle.plan_report.specs.declared.outcomes.Refusal.{Refusal}
use Rattle.plan_report.specs.declared.outcomes.Refusal.TheVariants.{Usage, Input, Request}

-- the place and the cause of a fault
abbrev pub fault_text : BadInput → List ℕ
fault_text fault = codes "input " ++ label_of fault.file ++ codes " " ++ decimal fault.row ++ codes " " ++ cause_name_of fault.cause

-- the words behind `refused`
abbrev pub refused_text : Refusal → List ℕ
refused_text Usage = codes "usage"
refused_text (Input fault) = fault_text fault
refused_text (Request fault) = codes "request " ++ request_fault_name_of fault

-- the line of a refusal
abbrev pub refusal_text_of : Refusal → List ℕ
refusal_text_of refusal = codes "refused " ++ refused_text refusal ++ codes "\n"
