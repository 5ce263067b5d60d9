use Rattle.guest_step.proofs.operate.operate.Goals as goal

pub returns-in-Constant : goal.returns-in-Constant
returns-in-Constant c = rw c.in-Constant.is (c.constant.ensures c.args.heap.now c.args.statics.now)

pub returns-in-ReadItem : goal.returns-in-ReadItem
returns-in-ReadItem c = rw c.in-ReadItem.is (c.read_item.ensures c.args.statics.now)

pub returns-in-WriteItem : goal.returns-in-WriteItem
returns-in-WriteItem c = rw c.in-WriteItem.is (c.write_item.ensures c.args.statics.now)

pub returns-in-Divide : goal.returns-in-Divide
returns-in-Divide c = rw c.in-Divide.is (c.divide.ensures c.args.heap.now c.args.statics.now)

pub returns-in-ReadStatic : goal.returns-in-ReadStatic
returns-in-ReadStatic c = rw (c.in-ReadStatic.is, ← c.program.ensures.program) (c.read_static.ensures c.args.heap.now)

pub returns-in-WriteStatic : goal.returns-in-WriteStatic
returns-in-WriteStatic c = rw c.in-WriteStatic.is (c.write_static.ensures c.args.heap.now)

pub returns-in-ReadField : goal.returns-in-ReadField
returns-in-ReadField c = rw c.in-ReadField.is (c.read_field.ensures c.args.statics.now)

pub returns-in-WriteField : goal.returns-in-WriteField
returns-in-WriteField c = rw c.in-WriteField.is (c.write_field.ensures c.args.statics.now)

pub returns-in-Cast : goal.returns-in-Cast
returns-in-Cast c = rw c.in-Cast.is (c.cast.ensures c.args.statics.now)

pub returns-in-IsInstance : goal.returns-in-IsInstance
returns-in-IsInstance c = rw c.in-IsInstance.is (c.tell_instance.ensures c.args.statics.now)
