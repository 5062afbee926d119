use Rattle.std.proofs.Common.{◌<◌, ◌+◌, ◌-◌, ◌*◌, length, get_or, arith}
use Rattle.std.proofs.lemmas.List.{get_or_default}
use Rattle.std.proofs.lemmas.Nat.{mul-add-lt}
use Rattle.plain_search.specs.Inside.Costs.{none}
use Rattle.plain_search.specs.Inside.CostTable.{cell_of}
use Rattle.plain_search.proofs.Lowering.{lowered}
use Rattle.plain_search.proofs.cost_table.CostTable.lower.Goals as goal

pub returns-then-cost-index-clause-lowers : goal.returns-then-cost-index-clause-lowers
returns-then-cost-index-clause-lowers c =
    let table = c.args.self.now in
    let fits : cell_of table.width table.depart c.args.node.0 c.args.minute < table.width * (table.until + 1 - table.depart) =
    mul-add-lt (c.args.minute - table.depart) table.width (c.args.node.0 - 1) (table.until + 1 - table.depart) (omega arith) (omega arith) in
    let within : cell_of table.width table.depart c.args.node.0 c.args.minute < length table.cells.items = omega (arith, fits, table.sized) in
    let lower : c.args.cost < get_or table.cells.items (cell_of table.width table.depart c.args.node.0 c.args.minute) none =
    omega (
      arith,
      c.index.ensures,
      get_or_default table.cells.items
          (cell_of table.width table.depart c.args.node.0 c.args.minute) none c.index.result.now within,
    ) in
    lowered table.width table.depart table.cells.items c.args.node.0 c.args.minute c.args.cost c.requires.low c.requires.high c.requires.from within lower
