-- Each condition computes, but for who is listed and what a whole share answers for one line, which the laws of finite sets and maps
-- say.
use Rattle.std.proofs.Common.{refl}
use Rattle.op_model.specs.Nodes.{listings}
use Rattle.op_model.specs.Tables.Remote.{meets, on_message}
use Rattle.op_model.specs.Shares.{copy_of, put_share}
use Rattle.op_model.specs.Events.Node.{meets_row, local}
use Rattle.row_examples.proofs.Maps.{maps, remove-0-of-1}
use Rattle.row_examples.proofs.remote.rows_met.Goals as goal

pub returns-clause-awaited : goal.returns-clause-awaited
unfolding meets
returns-clause-awaited c = refl

pub returns-clause-no_place : goal.returns-clause-no_place
unfolding meets
returns-clause-no_place c = refl

pub returns-clause-for_a_write : goal.returns-clause-for_a_write
unfolding meets
returns-clause-for_a_write c = refl

pub returns-clause-for_nothing : goal.returns-clause-for_nothing
unfolding meets
returns-clause-for_nothing c = refl

pub returns-clause-own_home : goal.returns-clause-own_home
unfolding meets
returns-clause-own_home c = refl

pub returns-clause-elsewhere : goal.returns-clause-elsewhere
unfolding meets
returns-clause-elsewhere c = refl

pub returns-clause-forward_home : goal.returns-clause-forward_home
unfolding meets
returns-clause-forward_home c = refl

pub returns-clause-clean_already : goal.returns-clause-clean_already
unfolding meets
returns-clause-clean_already c = refl

pub returns-clause-called_in : goal.returns-clause-called_in
unfolding meets
returns-clause-called_in c = refl

pub returns-clause-shared_home : goal.returns-clause-shared_home
unfolding meets
returns-clause-shared_home c = refl

pub returns-clause-handed_home : goal.returns-clause-handed_home
unfolding meets
returns-clause-handed_home c = refl

pub returns-clause-refused_home : goal.returns-clause-refused_home
unfolding meets
returns-clause-refused_home c = refl

pub returns-clause-refused_while_called : goal.returns-clause-refused_while_called
unfolding meets
returns-clause-refused_while_called c = refl

pub returns-clause-uncalled : goal.returns-clause-uncalled
unfolding meets
returns-clause-uncalled c = refl

pub returns-clause-listed : goal.returns-clause-listed
unfolding meets
returns-clause-listed c = simp listings refl

pub returns-clause-unlisted : goal.returns-clause-unlisted
unfolding meets
returns-clause-unlisted c = simp listings refl

pub returns-clause-own : goal.returns-clause-own
unfolding meets
returns-clause-own c = simp listings refl

pub returns-clause-removed : goal.returns-clause-removed
unfolding on_message meets
returns-clause-removed c = refl

pub returns-clause-removed_node : goal.returns-clause-removed_node
unfolding local copy_of put_share meets_row meets on_message
returns-clause-removed_node c = simp (maps, remove-0-of-1) refl
