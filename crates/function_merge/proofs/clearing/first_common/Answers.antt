use Rattle.std.proofs.Common.{⊎_elim, ◌<◌, ◌≤◌, arith}
use Rattle.std.proofs.lemmas.Bool.{cases_lt}
use Rattle.minute_sets.proofs.HeadRuns.{head_before}
use Rattle.function_merge.proofs.FirstPieces.{first_of, first_none}
use Rattle.function_merge.proofs.KeptParts.{kept_nowhere, kept_nothing}
use Rattle.function_merge.proofs.clearing.first_common.Goals as goal

pub returns-in-len1-up-runs : goal.returns-in-len1-up-runs
returns-in-len1-up-runs c = λ t early.
    let ps = c.args.pieces.now in
    let rs = c.args.runs.now in
    ⊎_elim
    (λ (before : t < (first_of ps).lo). kept_nothing ps rs t (first_none ps c.in-len1-up.len_at_least c.requires.pieces t before))
    (λ (begun : (first_of ps).lo ≤ t). kept_nowhere ps rs t (head_before rs c.in-len1-up-runs.len_at_least c.requires.runs t
    (omega (arith, early, begun, c.max.ensures))))
    (cases_lt t (first_of ps).lo)
