-- Each row computes, but for what a whole share of a node answers for one line, which the laws of finite maps say.
use Rattle.std.proofs.Common.{refl}
use Rattle.op_model.specs.Operations.{after_op}
use Rattle.op_model.specs.Tables.Remote.{on_fwd_get, on_fwd_getx, on_inv, on_put, on_putx, on_nak, meets, row_of, on_message}
use Rattle.op_model.specs.Shares.{copy_of, put_share}
use Rattle.op_model.specs.Events.Node.{meets_row, local}
use Rattle.row_examples.proofs.Maps.{maps}
use Rattle.row_examples.proofs.remote.remote_rows.Goals as goal

pub returns-clause-n1 : goal.returns-clause-n1
unfolding on_message meets row_of on_fwd_get
returns-clause-n1 c = refl

pub returns-clause-n2 : goal.returns-clause-n2
unfolding on_message meets row_of on_fwd_get
returns-clause-n2 c = refl

pub returns-clause-n3 : goal.returns-clause-n3
unfolding on_message meets row_of on_fwd_get
returns-clause-n3 c = refl

pub returns-clause-n4 : goal.returns-clause-n4
unfolding on_message meets row_of on_fwd_getx
returns-clause-n4 c = refl

pub returns-clause-n5 : goal.returns-clause-n5
unfolding on_message meets row_of on_fwd_getx
returns-clause-n5 c = refl

pub returns-clause-n6 : goal.returns-clause-n6
unfolding on_message meets row_of on_fwd_getx
returns-clause-n6 c = refl

pub returns-clause-n7 : goal.returns-clause-n7
unfolding on_message meets row_of on_inv
returns-clause-n7 c = refl

pub returns-clause-n7_copy : goal.returns-clause-n7_copy
unfolding on_message meets row_of on_inv
returns-clause-n7_copy c = refl

pub returns-clause-n7_write : goal.returns-clause-n7_write
unfolding on_message meets row_of on_inv
returns-clause-n7_write c = refl

pub returns-clause-n8 : goal.returns-clause-n8
unfolding on_message meets row_of on_put
returns-clause-n8 c = refl

pub returns-clause-n9 : goal.returns-clause-n9
unfolding on_message meets row_of on_put
returns-clause-n9 c = refl

pub returns-clause-n10 : goal.returns-clause-n10
unfolding on_message meets row_of on_put
returns-clause-n10 c = refl

pub returns-clause-n11 : goal.returns-clause-n11
unfolding on_message meets row_of on_putx after_op
returns-clause-n11 c = refl

pub returns-clause-n11_add : goal.returns-clause-n11_add
unfolding on_message meets row_of on_putx after_op
returns-clause-n11_add c = refl

pub returns-clause-n12 : goal.returns-clause-n12
unfolding on_message meets row_of on_putx after_op
returns-clause-n12 c = refl

pub returns-clause-n8_node : goal.returns-clause-n8_node
unfolding local copy_of put_share meets_row meets on_message row_of on_put
returns-clause-n8_node c = simp maps refl

pub returns-clause-n13 : goal.returns-clause-n13
unfolding on_message meets row_of on_nak
returns-clause-n13 c = refl

pub returns-clause-n13_marked : goal.returns-clause-n13_marked
unfolding on_message meets row_of on_nak
returns-clause-n13_marked c = refl

pub returns-clause-n13_home : goal.returns-clause-n13_home
unfolding on_message meets row_of on_nak
returns-clause-n13_home c = refl
