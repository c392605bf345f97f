use Rattle.std.proofs.Common.{◌≡◌, take}
use Rattle.lot_group.proofs.Steps.{Gathered}
use Rattle.lot_group.proofs.pass.Pass.+visit.Given as goal

abbrev pub decreases-visit : goal.decreases-visit
decreases-visit l = goal.size-visit l

abbrev pub invariant-loop-k : goal.invariant-loop-k
invariant-loop-k l = record {
  gathered :
      Gathered l.d l.t
      record {
        around = record {
          place = l.initial.self.place.items;
          matrices = l.initial.self.matrices.items;
          opacities = l.initial.self.opacities.items;
        };
        outlines = l.initial.self.outlines.items;
        maps = l.initial.self.maps.items;
        styles = l.initial.self.styles.items;
      } (take l.k l.items) l.self.outlines.items l.self.maps.items l.self.styles.items;
  place : l.self.place.items ≡ l.initial.self.place.items;
  matrices : l.self.matrices.items ≡ l.initial.self.matrices.items;
  opacities : l.self.opacities.items ≡ l.initial.self.opacities.items;
}
