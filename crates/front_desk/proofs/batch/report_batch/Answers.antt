use Rattle.std.proofs.Common.{refl}
use Rattle.front_desk.specs.Batch.{batch_meaning}
use Rattle.front_desk.proofs.Batches.{ends_batch}
use Rattle.front_desk.proofs.Ending.{ends_short, ends_unread}
use Rattle.front_desk.proofs.batch.report_batch.Goals as goal

pub returns : goal.returns
returns g c =
    let e = c.in_ok-network.ensures in
    ends_batch c.args.batch.now _ _ c.in_ok-network.network c.in_ok-network.jobs e.faultless e.network e.jobs _ refl
    c.in_ok-texts_of_jobs.ensures c.load_batch.ensures.kept

pub returns-in_err-network : goal.returns-in_err-network
returns-in_err-network g c =
    ends_unread (batch_meaning c.args.batch.now) (λ kept _. kept) c.load_batch.ensures.kept _ _ c.from_residual.ensures.1 c.in_err-network.ensures.refused

pub returns-in_err-texts_of_jobs : goal.returns-in_err-texts_of_jobs
returns-in_err-texts_of_jobs g c =
    ends_short (batch_meaning c.args.batch.now) (λ kept _. kept) c.load_batch.ensures.kept _ c.from_residual-in_err-texts_of_jobs.ensures.1
