use Rattle.std.proofs.Common.{◌≡◌, Some, List, [], ◌∷◌, ◌++◌, ap, sym, ◌∙◌, rules}
use Rattle.csv.specs.Records.{fields_of}
use Rattle.table_reader.proofs.Lists.{filter_map-push}
use Rattle.network_tables.specs.declared.jobs.Job.{Job}
use Rattle.network_tables.specs.Jobs.{job_of}
use Rattle.network_tables.proofs.jobs.JobTableTable.add.Goals as goal

pub returns-clause-added : goal.returns-clause-added
returns-clause-added c = λ start before is.
    let says : job_of (fields_of c.args.row.now) ≡ Some c.in-Some.job = search rules in
    c.in_ok-push.ensures ∙ ap (λ (jobs : List Job). jobs ++ c.in-Some.job ∷ []) is
    ∙ sym (filter_map-push job_of before (fields_of c.args.row.now) c.in-Some.job says)
