-- The nodes and directories at the start.
use Rattle.std.specs.Prelude.{◌≡◌, ℕ, List, [], ◌∷◌, length, slice_get, Some}
use Rattle.line_map.specs.Sizes.{Sizes}
use Rattle.op_model.specs.declared.operations.Op.{Op}
use Rattle.op_model.specs.Shares.{Charge, Linked}
use Rattle.op_model.specs.Run.Runs.{start_share}
use Rattle.dir_header.specs.Sharers.{Directory}
use Rattle.dir_header.specs.HomeSides.{IsFresh}
use Rattle.machine.specs.Faces.{Face}
use Rattle.machine.specs.Kept.{programs_in, IsNodeAt}

-- the charge of the first directory
abbrev pub charge_of : List Directory → Charge
charge_of [] = Linked
charge_of (dir ∷ dirs) = dir.charge

-- an empty directory of the machine, of this charge
pub record IsFreshOf (sizes : Sizes) (charge : Charge) (dir : Directory) : Type 0 where
  pub fresh : IsFresh sizes dir
  pub same_charge : dir.charge ≡ charge

-- one empty directory a node, all of one charge
pub record AreFresh (sizes : Sizes) (dirs : List Directory) : Type 0 where
  pub count : length dirs ≡ sizes.nodes
  pub each : (node : ℕ) (dir : Directory) → slice_get dirs node ≡ Some dir → IsFreshOf sizes (charge_of dirs) dir

-- a node of the machine that has done nothing
pub record IsNewAt (sizes : Sizes) (charge : Charge) (node : ℕ) (face : Face) : Type 0 where
  pub its : IsNodeAt sizes charge node face
  pub share_is : face.share ≡ start_share sizes node

-- one node a number, none of which has done anything
pub record AreNew (sizes : Sizes) (programs : List (List Op)) (dirs : List Directory) (faces : List Face) : Type 0 where
  pub each : (node : ℕ) (face : Face) → slice_get faces node ≡ Some face → IsNewAt sizes (charge_of dirs) node face
  pub programs_are : programs_in faces ≡ programs
