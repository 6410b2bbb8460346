-- `storing::store_in` meets its contract.
use Rattle.std.proofs.Common.{sym, ap, ◌∙◌, ◌≡◌, refl, arith, rules, w64, to_z, of_z, SFits}
use Rattle.std.proofs.Math.Facts.{to_z-of_z}
use Rattle.rules.specs.Layout.{number_bytes}
use Rattle.rules.specs.declared.Outcome.TheVariants.{Done}
use Rattle.rules.specs.Calls.{value_given, boolean_byte, item_of}
use Rattle.laws.specs.ChecksLaws.{store_passed}
use Rattle.laws.specs.Carry.{store_fine}
use Rattle.laws.specs.Buffers.{step_sound, swept_sound}
use Rattle.storing.specs.StoreCallLaws.{swept_two, storable, ordered_does, nil_does, text_given, number_given, boolean_given, boolean_kind}
use Rattle.storing.proofs.store_in.Goals as goal
use Rattle.storing.proofs.store_in.Goals.{in-4, in-3, in_default}

pub sweep-removed-requires : goal.sweep-removed-requires
sweep-removed-requires c = (store_passed _ _ _ _ _ _ _ c.requires).is_sound

pub delete_swept-requires : goal.delete_swept-requires
delete_swept-requires c = let t = (store_passed _ _ _ _ _ _ _ c.requires).is_sound in
    step_sound _ _ t (swept_sound _ _ t _) c.sweep-removed.ensures.memory

pub returns-then-value-eq0 : goal.returns-then-value-eq0
returns-then-value-eq0 c = let p = store_passed _ _ _ _ _ _ _ c.requires in
    nil_does _ _ _ _ _ _ _ _ _ _ p.is_sound c.if-value-eq0.true (p.nil_taken_by c.if-value-eq0.true) c.sweep-removed.ensures c.delete_swept.ensures

pub expiry_of-requires : goal.expiry_of-requires
expiry_of-requires c = (store_passed _ _ _ _ _ _ _ c.requires).in_time

pub store_swept-requires : goal.store_swept-requires
unfolding item_of
store_swept-requires c = let p = store_passed _ _ _ _ _ _ _ c.requires in
    let fits : SFits w64 c.args.value.number = record { sfits = search rules } in
    let held : to_z w64 (of_z w64 c.args.value.number) ≡ c.args.value.number = to_z-of_z {w = w64} fits in
    let b : c.match-value.order.now ≡ value_given c.args.value.kind c.args.value.number c.args.value.text.now = elim c.match-value.branch [
      | in-4 w ↦ ap (λ b. b.now) w.order-is ∙ text_given _ _ _ w.in-4.is
      | in-3 w ↦ ap (λ b. b.now) w.order-is ∙ number_given _ _ _ _ w.in-3.is (c.number_bytes-number.ensures ∙ ap number_bytes held)
      | in_default w ↦ ap (λ b. b.now) w.order-is ∙ boolean_given _ _ _ _ (boolean_kind _ p.kind_is c.if-value-eq0.false (λ e. omega arith) (λ e. omega arith)) (c.boolean_byte.ensures ∙ ap boolean_byte held)
    ] in
    record { pool_value = step_sound _ _ p.is_sound (swept_sound _ _ p.is_sound _) c.sweep-removed.ensures.memory; storable = storable _ _ _ c.args.value (record { of_key = refl; of_bytes = b; of_expiry = c.expiry_of.ensures; of_kind = c.from.ensures; of_flags = c.from-2.ensures; of_most = c.most_rounds.ensures; of_told = refl; of_removed = refl }) (store_fine _ _ _ _ _ _ _ _ _ _ (omega arith) (sym c.requires) c.if-value-eq0.false) (swept_two _ _ _ c.sweep-removed.ensures.count); most_value = (c.most_rounds.ensures, refl) }

pub returns : goal.returns
returns c = let p = store_passed _ _ _ _ _ _ _ c.requires in
    let fits : SFits w64 c.args.value.number = record { sfits = search rules } in
    let held : to_z w64 (of_z w64 c.args.value.number) ≡ c.args.value.number = to_z-of_z {w = w64} fits in
    let b : c.match-value.order.now ≡ value_given c.args.value.kind c.args.value.number c.args.value.text.now = elim c.match-value.branch [
      | in-4 w ↦ ap (λ b. b.now) w.order-is ∙ text_given _ _ _ w.in-4.is
      | in-3 w ↦ ap (λ b. b.now) w.order-is ∙ number_given _ _ _ _ w.in-3.is (c.number_bytes-number.ensures ∙ ap number_bytes held)
      | in_default w ↦ ap (λ b. b.now) w.order-is ∙ boolean_given _ _ _ _ (boolean_kind _ p.kind_is c.if-value-eq0.false (λ e. omega arith) (λ e. omega arith)) (c.boolean_byte.ensures ∙ ap boolean_byte held)
    ] in
    ordered_does _ _ _ c.args.value {o = record { key = c.args.key; bytes = c.match-value.order; expiry = c.expiry_of.result; kind = c.from.result; flags = c.from-2.result; most = c.most_rounds.result; told = Done; removed = c.sweep-removed.result }} (record { of_key = refl; of_bytes = b; of_expiry = c.expiry_of.ensures; of_kind = c.from.ensures; of_flags = c.from-2.ensures; of_most = c.most_rounds.ensures; of_told = refl; of_removed = refl }) _ _ p.is_sound c.sweep-removed.ensures c.store_swept.ensures
