use Rattle.std.proofs.Common.{refl, inl}
use Rattle.can_frame.specs.FrameText.{frame_spelling, upper}
use Rattle.can_frame.proofs.Guessing.{one_item}
use Rattle.can_frame.proofs.laws.frame_texts_tell_items_apart.Goals as goal

pub returns-clause-spelled : goal.returns-clause-spelled
returns-clause-spelled c text a b good_a good_b is_a is_b = one_item (upper text) a b good_a good_b is_a is_b

pub returns-clause-written : goal.returns-clause-written
returns-clause-written c a b good_a good_b same = one_item (frame_spelling a) a b good_a good_b (inl refl) (inl same)
