use Rattle.csv.specs.Records.{fields_of}
use Rattle.vehicle_classes.proofs.Fields.{next, none_left}
use Rattle.vehicle_classes.proofs.rows.ten_fields.Goals as goal

pub returns : goal.returns
returns c =
    let fs = fields_of c.args.row.now in
    next fs 0 _ _ c.field.ensures (next fs 1 _ _ c.field-2.ensures (next fs 2 _ _ c.field-3.ensures (next fs 3 _ _ c.field-4.ensures
    (next fs 4 _ _ c.field-5.ensures (next fs 5 _ _ c.field-6.ensures (next fs 6 _ _ c.field-7.ensures (next fs 7 _ _ c.field-8.ensures
    (next fs 8 _ _ c.field-9.ensures (next fs 9 _ _ c.field-10.ensures (none_left fs 10 c.requires))))))))))
