use Rattle.x_branches.proofs.order.run_order.Goals as goal

pub returns : goal.returns
returns c =
    let told = rw (c.of.ensures, c.of-2.ensures) at c.position_order.ensures in
    record { less = told.less; equal = told.equal; greater = told.greater }
