use Rattle.lot_types.specs.declared.slot.SlotKind.TheVariants as slot_kind
use Rattle.lot_read.proofs.SoundTransform.{position_sound, transform_sound}
use Rattle.lot_read.proofs.SoundValues.{scalar_sound, vector_sound, color_sound, bezier_sound, gradient_sound, property_sound}
use Rattle.lot_read.proofs.faultless.faultless_property_has_value.Goals as goal

pub returns : goal.returns
returns c = record {
  scalar = λ names. property_sound slot_kind.Scalar names scalar_sound;
  vector = λ names. property_sound slot_kind.Vector names vector_sound;
  color = λ names. property_sound slot_kind.Color names color_sound;
  bezier = λ names. property_sound slot_kind.Bezier names bezier_sound;
  gradient = λ names stops. property_sound (slot_kind.Gradient stops) names (gradient_sound stops);
  position = λ names. position_sound names;
  transform = λ names. transform_sound names;
}
