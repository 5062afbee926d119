use Rattle.std.proofs.Common.{◌≡◌, ℕ, List, sym, subst, rules}
use Rattle.plan_report.proofs.Items.{routes_are}
use Rattle.plan_report.proofs.json.json_text.Goals as goal

pub returns : goal.returns
returns c = subst (λ (t : List ℕ). c.push_text-2.new.out.items ≡ t) (sym (routes_are c.args.routes.now)) (search rules)
