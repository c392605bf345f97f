-- The bytes that were read are a prefix of the content, and not too many; what may still come is the measure.
use Rattle.std.proofs.Common.{◌-◌, ◌≤◌, length}
use Rattle.lot_play.specs.Folder.{SameServed}
use Rattle.lot_play.proofs.ReadLoop.{IsRead}
use Rattle.lot_play.proofs.reading.read_all.Given as goal

abbrev pub invariant-loop-n : goal.invariant-loop-n
invariant-loop-n g l =
    g.F.Folder.serves l.folder l.name
    × SameServed (g.F.Folder.serves l.initial.folder) (g.F.Folder.serves l.folder)
    × (length l.content ≤ 16777216)
    × IsRead (g.F.Folder.state l.initial.folder) (g.F.Folder.state l.folder) l.name l.content

abbrev pub decreases-loop-n : goal.decreases-loop-n
decreases-loop-n g l = 16777217 - length l.content
