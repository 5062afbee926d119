use Rattle.std.proofs.Common.{◌≡◌, ◌-◌, arith, length, take, drop}
use Rattle.std.proofs.lemmas.List.{take_all, length-drop}
use Rattle.dimacs_reader.proofs.PlainArcs.{arc_first}
use Rattle.dimacs_reader.proofs.plain_lines.read_plain_arc.Goals as goal

pub returns : goal.returns
returns c =
    let bytes = c.args.bytes.now in
    let rest = drop c.in_ok-minutes.next bytes in
    let whole : take (length bytes - c.in_ok-minutes.next) rest ≡ rest
    = take_all (length bytes - c.in_ok-minutes.next) rest (omega (arith, length-drop c.in_ok-minutes.next bytes)) in
    rw whole (arc_first bytes c.in_ok-tail.next c.in_ok-head.next c.in_ok-minutes.next c.in_ok-tail.tail c.in_ok-head.head
    c.in_ok-minutes.minutes (omega arith) (cc) (cc) c.in_ok-tail.ensures c.in_ok-head.ensures c.in_ok-minutes.ensures)
