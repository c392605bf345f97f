use Rattle.lot_json.proofs.SameTree.{one_tree}
use Rattle.lot_json.proofs.SameNumber.{one_number}
use Rattle.lot_json.proofs.SameCharacters.{one_string}
use Rattle.lot_json.proofs.laws.has_one_tree.Goals as goal

pub returns-clause-tree : goal.returns-clause-tree
returns-clause-tree c = one_tree

pub returns-clause-number : goal.returns-clause-number
returns-clause-number c = one_number

pub returns-clause-string : goal.returns-clause-string
returns-clause-string c = one_string
