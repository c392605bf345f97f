use Rattle.std.proofs.Common.{[], ◌∷◌, ◌++◌, refl}
use Rattle.lot_json.specs.Characters.{close}
use Rattle.lot_json.specs.TextRest.{TextRest}
use Rattle.lot_json.proofs.Texts.{rest_of_new}
use Rattle.lot_json.proofs.tokens.text_token.TextToken.new.Goals as goal

pub returns-clause-begins : goal.returns-clause-begins
unfolding TextRest
returns-clause-begins c = rest_of_new c.new.result c.new.ensures

pub returns-clause-can_end : goal.returns-clause-can_end
unfolding TextRest
returns-clause-can_end c = (34 ∷ [], c.new.result ++ [], ([], close refl refl, refl))
