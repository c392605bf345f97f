-- What was found is the content of the name among the entries before this one.
use Rattle.std.proofs.Common.{◌≡◌, take}
use Rattle.std.specs.Option.{option_copied}
use Rattle.lot_play.specs.Folder.{content_of}
use Rattle.lot_play.proofs.outside.sure_folder.find_last.Given as goal

abbrev pub invariant-loop-e : goal.invariant-loop-e
invariant-loop-e l = option_copied l.found ≡ content_of (take l.e-index l.entries) l.name
