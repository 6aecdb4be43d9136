-- Each row computes, but for what the laws of finite sets and maps say: which nodes are listed, how many and in which order, and
-- what a whole share of the home answers for one line.
use Rattle.std.proofs.Common.{refl}
use Rattle.op_model.specs.Nodes.{listings}
use Rattle.op_model.specs.Operations.{after_op}
use Rattle.op_model.specs.Tables.Home.{wants_victim, on_get, on_getx, on_inv_ack, on_shwb, on_fack, on_nakc, on_wb, on_rpl}
use Rattle.op_model.specs.Tables.Remote.{meets, row_of, on_message}
use Rattle.op_model.specs.Shares.{copy_of, header_of, put_share, header_in}
use Rattle.op_model.specs.Events.Node.{meets_row, local}
use Rattle.row_examples.proofs.Sets.{orders, more_or_less}
use Rattle.row_examples.proofs.Maps.{maps, put-1-of-2, put-1-of-3, put-put, remove-empty}
use Rattle.row_examples.proofs.home.home_rows.Goals as goal

pub returns-clause-h1 : goal.returns-clause-h1
unfolding on_message meets row_of on_get
returns-clause-h1 c = refl

pub returns-clause-h2 : goal.returns-clause-h2
unfolding on_message meets row_of on_get
returns-clause-h2 c = simp listings refl

pub returns-clause-h2_node : goal.returns-clause-h2_node
unfolding local put_share copy_of header_in meets_row meets wants_victim on_message row_of on_get
returns-clause-h2_node c = simp (listings, maps, put-1-of-2, remove-empty) refl

pub returns-clause-h3 : goal.returns-clause-h3
unfolding on_message meets row_of on_get
returns-clause-h3 c = simp (listings, more_or_less) refl

pub returns-clause-h3_node : goal.returns-clause-h3_node
unfolding local put_share copy_of header_in meets_row meets wants_victim on_message row_of on_get
returns-clause-h3_node c = simp (listings, maps, put-1-of-3, remove-empty) refl

pub returns-clause-h4 : goal.returns-clause-h4
unfolding on_message meets row_of on_get
returns-clause-h4 c = simp (listings, more_or_less) refl

pub returns-clause-h4_node : goal.returns-clause-h4_node
unfolding local put_share copy_of header_in meets_row meets wants_victim on_message row_of on_get
returns-clause-h4_node c = simp (listings, orders, maps, put-1-of-2, put-put, remove-empty) refl

pub returns-clause-h5 : goal.returns-clause-h5
unfolding on_message meets row_of on_get
returns-clause-h5 c = simp listings refl

pub returns-clause-h6 : goal.returns-clause-h6
unfolding on_message meets row_of on_get
returns-clause-h6 c = simp listings refl

pub returns-clause-h6_node : goal.returns-clause-h6_node
unfolding local put_share copy_of header_in meets_row meets wants_victim on_message row_of on_get
returns-clause-h6_node c = simp (listings, maps, put-1-of-2, remove-empty) refl

pub returns-clause-h7 : goal.returns-clause-h7
unfolding on_message meets row_of on_get
returns-clause-h7 c = simp (listings, orders, more_or_less) refl

pub returns-clause-h8 : goal.returns-clause-h8
unfolding on_message meets row_of on_get
returns-clause-h8 c = simp (listings, more_or_less) refl

pub returns-clause-h8_listed : goal.returns-clause-h8_listed
unfolding on_message meets row_of on_get
returns-clause-h8_listed c = simp (listings, more_or_less) refl

pub returns-clause-h8_first : goal.returns-clause-h8_first
unfolding on_message meets row_of on_get
returns-clause-h8_first c = simp listings refl

pub returns-clause-h8_unlinked : goal.returns-clause-h8_unlinked
unfolding on_message meets row_of on_get
returns-clause-h8_unlinked c = simp more_or_less refl

pub returns-clause-h9 : goal.returns-clause-h9
unfolding on_message meets row_of on_getx
returns-clause-h9 c = refl

pub returns-clause-h10 : goal.returns-clause-h10
unfolding on_message meets row_of on_getx
returns-clause-h10 c = refl

pub returns-clause-h11 : goal.returns-clause-h11
unfolding on_message meets row_of on_getx
returns-clause-h11 c = simp listings refl

pub returns-clause-h12 : goal.returns-clause-h12
unfolding on_message meets row_of on_getx
returns-clause-h12 c = simp (listings, orders) refl

pub returns-clause-h13 : goal.returns-clause-h13
unfolding on_message meets row_of on_getx
returns-clause-h13 c = simp listings refl

pub returns-clause-h13_copy : goal.returns-clause-h13_copy
unfolding on_message meets row_of on_getx
returns-clause-h13_copy c = simp (listings, more_or_less) refl

pub returns-clause-h14 : goal.returns-clause-h14
unfolding on_message meets row_of on_getx
returns-clause-h14 c = simp (listings, more_or_less) refl

pub returns-clause-h15 : goal.returns-clause-h15
unfolding on_message meets row_of on_getx
returns-clause-h15 c = simp (listings, orders, more_or_less) refl

pub returns-clause-h15_copy : goal.returns-clause-h15_copy
unfolding on_message meets row_of on_getx
returns-clause-h15_copy c = simp (listings, orders, more_or_less) refl

pub returns-clause-h16 : goal.returns-clause-h16
unfolding on_message meets row_of on_inv_ack
returns-clause-h16 c = simp (listings, more_or_less) refl

pub returns-clause-h16_next : goal.returns-clause-h16_next
unfolding on_message meets row_of on_inv_ack
returns-clause-h16_next c = simp (listings, more_or_less) refl

pub returns-clause-h17 : goal.returns-clause-h17
unfolding on_message meets row_of on_inv_ack
returns-clause-h17 c = simp (listings, more_or_less) refl

pub returns-clause-h17_copy : goal.returns-clause-h17_copy
unfolding on_message meets row_of on_inv_ack
returns-clause-h17_copy c = simp (listings, more_or_less) refl

pub returns-clause-h18 : goal.returns-clause-h18
unfolding on_message meets row_of on_inv_ack after_op
returns-clause-h18 c = simp (listings, more_or_less) refl

pub returns-clause-h19 : goal.returns-clause-h19
unfolding on_message meets row_of on_inv_ack
returns-clause-h19 c = simp listings refl

pub returns-clause-h20 : goal.returns-clause-h20
unfolding on_message meets row_of on_shwb
returns-clause-h20 c = refl

pub returns-clause-h21 : goal.returns-clause-h21
unfolding on_message meets row_of on_fack
returns-clause-h21 c = refl

pub returns-clause-h22 : goal.returns-clause-h22
unfolding on_message meets row_of on_fack
returns-clause-h22 c = refl

pub returns-clause-h23 : goal.returns-clause-h23
unfolding on_message meets row_of on_nakc
returns-clause-h23 c = refl

pub returns-clause-h23_dirty : goal.returns-clause-h23_dirty
unfolding on_message meets row_of on_nakc
returns-clause-h23_dirty c = simp more_or_less refl

pub returns-clause-h23_write : goal.returns-clause-h23_write
unfolding on_message meets row_of on_nakc
returns-clause-h23_write c = simp more_or_less refl

pub returns-clause-h24 : goal.returns-clause-h24
unfolding on_message meets row_of on_wb
returns-clause-h24 c = refl

pub returns-clause-h25 : goal.returns-clause-h25
unfolding on_message meets row_of on_wb
returns-clause-h25 c = refl

pub returns-clause-h25_write : goal.returns-clause-h25_write
unfolding on_message meets row_of on_wb
returns-clause-h25_write c = refl

pub returns-clause-h26 : goal.returns-clause-h26
unfolding on_message meets row_of on_rpl
returns-clause-h26 c = simp more_or_less refl

pub returns-clause-h26_shared : goal.returns-clause-h26_shared
unfolding on_message meets row_of on_rpl
returns-clause-h26_shared c = simp more_or_less refl

pub returns-clause-h27 : goal.returns-clause-h27
unfolding on_message meets row_of on_rpl
returns-clause-h27 c = refl

pub returns-clause-h27_unlisted : goal.returns-clause-h27_unlisted
unfolding on_message meets row_of on_rpl
returns-clause-h27_unlisted c = simp more_or_less refl

pub returns-clause-h27_dirty : goal.returns-clause-h27_dirty
unfolding on_message meets row_of on_rpl
returns-clause-h27_dirty c = refl
