-- `reading::find_text` meets its contract.
use mathlib.Core.Path.{sym, ◌∙◌}
use Rattle.laws.specs.ChecksLaws.{key_passed}
use Rattle.laws.specs.Buffers.{given_sound}
use Rattle.laws.specs.Meant.{live_there}
use Rattle.reading.specs.Lent.{text_refused, text_nothing, text_here, text_other}
use Rattle.reading.proofs.find_text.Goals as goal

pub returns-in-Err : goal.returns-in-Err
returns-in-Err c = text_refused _ _ _ _ _ (sym c.of_key.ensures ∙ c.in-Err.is)

pub look_up-requires : goal.look_up-requires
look_up-requires c = key_passed _ _ _ _ (sym c.in_default.is ∙ c.of_key.ensures)

pub returns-in_default-look_up : goal.returns-in_default-look_up
returns-in_default-look_up c = text_nothing _ _ _ _ _ (sym c.of_key.ensures ∙ c.in_default.is) _ c.look_up.ensures c.in_default-look_up.not-Live

pub record_at-e-requires : goal.record_at-e-requires
record_at-e-requires c = record { dir = (given_sound _ _ (key_passed _ _ _ _ (sym c.in_default.is ∙ c.of_key.ensures))).dir_is; i_in_bounds = live_there _ _ _ _ _ c.look_up.ensures _ c.in-Live.is }

pub returns-then-e-eq4 : goal.returns-then-e-eq4
returns-then-e-eq4 c = text_here _ _ _ _ _ (sym c.of_key.ensures ∙ c.in_default.is) _ c.look_up.ensures _ _ c.record_at-e.ensures c.in-Live.is c.if-e-eq4.true

pub returns : goal.returns
returns c = text_other _ _ _ _ _ (sym c.of_key.ensures ∙ c.in_default.is) _ c.look_up.ensures _ _ c.record_at-e.ensures c.in-Live.is c.if-e-eq4.false
