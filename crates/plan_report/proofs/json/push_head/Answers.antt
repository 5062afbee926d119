use Rattle.plan_report.proofs.Items.{head_pushed}
use Rattle.plan_report.proofs.json.push_head.Goals as goal

pub returns : goal.returns
returns c =
    head_pushed c.args.out.now.items c.push_field.new.out.items c.push_field-2.new.out.items c.push_text.new.out.items c.args.route.now
    c.in_ok-push_field.ensures.text c.in_ok-push_field-2.ensures.text c.in_ok-push_text.ensures.text
