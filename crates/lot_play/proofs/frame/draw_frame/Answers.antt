use Rattle.std.proofs.Common.{◌≡◌, ◌+◌, ◌≤◌, length, ℕ, List, Some, sym, ap, ◌∙◌, rules}
use Rattle.lot_comp.specs.Frame.{frame, main_comp, evaluated_frame, piece_at}
use Rattle.lot_play.specs.Evaluations.{layers_shown}
use Rattle.lot_play.specs.Picture.{svg_of}
use Rattle.lot_play.specs.Walk.{after_frame}
use Rattle.lot_svg.specs.Written.{begin, finish, unwritten}
use Rattle.lot_types.specs.Frame.{visits}
use Rattle.lot_play.proofs.Judging.{if_ok}
use Rattle.lot_play.proofs.Walking.{gives_text}
use Rattle.lot_play.proofs.frame.draw_frame.Goals as goal

pub returns-clause-svg : goal.returns-clause-svg
unfolding svg_of
returns-clause-svg g c =
    let d = c.args.d.now in
    let written : after_frame d (frame d (main_comp d) c.args.t) (begin d.w d.h unwritten) ≡ Some c.write_layers.new.w = search rules in
    let svg = gives_text d (evaluated_frame (piece_at d) (frame d (main_comp d) c.args.t)) c.write_layers.new.w written in
    if_ok c.end.result (λ b. b ≡ finish c.write_layers.new.w) (λ b. svg_of d c.args.t ≡ Some b)
    (λ b is. svg ∙ ap (λ (z : List ℕ). Some z) (sym is)) c.end.ensures

pub returns-in_err-write_layers-clause-evaluated : goal.returns-in_err-write_layers-clause-evaluated
unfolding layers_shown
returns-in_err-write_layers-clause-evaluated g c =
    let most : c.write_layers.new.steps
    ≤ c.args.steps.now + length (visits (frame c.args.d.now (main_comp c.args.d.now) c.args.t)) = search rules in
    most

pub returns-clause-evaluated : goal.returns-clause-evaluated
unfolding layers_shown
returns-clause-evaluated g c =
    let most : c.write_layers.new.steps
    ≤ c.args.steps.now + length (visits (frame c.args.d.now (main_comp c.args.d.now) c.args.t)) = search rules in
    most
