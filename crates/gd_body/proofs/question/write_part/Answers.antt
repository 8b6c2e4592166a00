use Rattle.std.proofs.Common.{◌≡◌, ◌++◌, OnOk, string_bytes, subst}
use Rattle.gd_body.specs.Rows.{Fields, line}
use Rattle.gd_body.proofs.Parts.{segment_row, receipt_row, delivery_row, pool_row}
use Rattle.gd_body.proofs.question.write_part.Goals as goal

pub returns-in-Segment : goal.returns-in-Segment
returns-in-Segment c =
    subst (λ (row : Fields). OnOk c.write_segment.result (string_bytes c.write_segment.new.text ≡ string_bytes c.args.text.now ++ line row))
    (segment_row c.args.system.now c.args.element.0 c.name-name.result c.name-name.ensures c.in-Segment.from.0 c.in-Segment.to.0 c.in-Segment.capacity c.place_name-from.result c.place_name-to.result c.in-Segment.ensures c.place_name-from.ensures c.place_name-to.ensures)
    c.write_segment.ensures

pub returns-in-Receipt : goal.returns-in-Receipt
returns-in-Receipt c =
    subst (λ (row : Fields). OnOk c.write_point.result (string_bytes c.write_point.new.text ≡ string_bytes c.args.text.now ++ line row))
    (receipt_row c.args.system.now c.args.element.0 c.name-name.result c.name-name.ensures c.in-Receipt.place.0 c.in-Receipt.capacity c.place_name-place.result c.operator.result c.in-Receipt.ensures c.place_name-place.ensures c.operator.ensures)
    c.write_point.ensures

pub returns-in-Delivery : goal.returns-in-Delivery
returns-in-Delivery c =
    subst (λ (row : Fields). OnOk c.write_point-in-Delivery.result (string_bytes c.write_point-in-Delivery.new.text ≡ string_bytes c.args.text.now ++ line row))
    (delivery_row c.args.system.now c.args.element.0 c.name-name.result c.name-name.ensures c.in-Delivery.place.0 c.in-Delivery.capacity c.place_name-place-in-Delivery.result c.operator.result c.in-Delivery.ensures c.place_name-place-in-Delivery.ensures c.operator.ensures)
    c.write_point-in-Delivery.ensures

pub returns-in-Pool : goal.returns-in-Pool
returns-in-Pool c =
    subst (λ (row : Fields). OnOk c.write_pool.result (string_bytes c.write_pool.new.text ≡ string_bytes c.args.text.now ++ line row))
    (pool_row c.args.system.now c.args.element.0 c.name-name.result c.name-name.ensures c.in-Pool.place.0 c.place_name-place-in-Pool.result c.operator.result c.in-Pool.ensures c.place_name-place-in-Pool.ensures c.operator.ensures)
    c.write_pool.ensures
