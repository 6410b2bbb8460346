-- `telling::tell` meets its contract.
use Rattle.rules.specs.Answer.{fields_of}
use Rattle.telling.specs.Told.{told_of, bare_told, text_told, boolean_told, number_told, sum_told, bit_is}
use mathlib.Core.Path.{refl, ◌∙◌}
use borrow.Author.Rules.{rules}
use Rattle.telling.proofs.tell.Goals as goal

pub returns-in-Done : goal.returns-in-Done
unfolding told_of fields_of
returns-in-Done c = let p = bare_told c.only.ensures refl c.in-Done.is in record { value = p.0; read_back = p.1 }

pub returns-in-Number : goal.returns-in-Number
returns-in-Number c = let p = number_told (search rules) c.to_bits.ensures c.value.ensures c.in-Number.is in record { value = p.0; read_back = p.1 }

pub returns-in-Boolean : goal.returns-in-Boolean
returns-in-Boolean c = let p = boolean_told (c.from.ensures ∙ bit_is c.in-Boolean.on) c.value-in-Boolean.ensures c.in-Boolean.is in record { value = p.0; read_back = p.1 }

pub returns-in-Text : goal.returns-in-Text
returns-in-Text c = let p = text_told c.value-in-Text.ensures c.in-Text.is in record { value = p.0; read_back = p.1 }

pub returns-in-Count : goal.returns-in-Count
unfolding told_of fields_of
returns-in-Count c = let p = bare_told c.value-in-Count.ensures refl c.in-Count.is in record { value = p.0; read_back = p.1 }

pub returns-in-Sum : goal.returns-in-Sum
returns-in-Sum c = let p = sum_told (search rules) c.to_bits-in-Sum.ensures c.value-in-Sum.ensures c.in-Sum.is in record { value = p.0; read_back = p.1 }

pub returns-in-NotSound : goal.returns-in-NotSound
unfolding told_of fields_of
returns-in-NotSound c = let p = bare_told c.only-in-NotSound.ensures refl c.in-NotSound.is in record { value = p.0; read_back = p.1 }

pub returns-in-ClockZero : goal.returns-in-ClockZero
unfolding told_of fields_of
returns-in-ClockZero c = let p = bare_told c.only-in-ClockZero.ensures refl c.in-ClockZero.is in record { value = p.0; read_back = p.1 }

pub returns-in-KeyEmpty : goal.returns-in-KeyEmpty
unfolding told_of fields_of
returns-in-KeyEmpty c = let p = bare_told c.only-in-KeyEmpty.ensures refl c.in-KeyEmpty.is in record { value = p.0; read_back = p.1 }

pub returns-in-KeyTooLong : goal.returns-in-KeyTooLong
unfolding told_of fields_of
returns-in-KeyTooLong c = let p = bare_told c.only-in-KeyTooLong.ensures refl c.in-KeyTooLong.is in record { value = p.0; read_back = p.1 }

pub returns-in-KindUnknown : goal.returns-in-KindUnknown
unfolding told_of fields_of
returns-in-KindUnknown c = let p = bare_told c.only-in-KindUnknown.ensures refl c.in-KindUnknown.is in record { value = p.0; read_back = p.1 }

pub returns-in-NilRefused : goal.returns-in-NilRefused
unfolding told_of fields_of
returns-in-NilRefused c = let p = bare_told c.only-in-NilRefused.ensures refl c.in-NilRefused.is in record { value = p.0; read_back = p.1 }

pub returns-in-ExpiryTooLate : goal.returns-in-ExpiryTooLate
unfolding told_of fields_of
returns-in-ExpiryTooLate c = let p = bare_told c.only-in-ExpiryTooLate.ensures refl c.in-ExpiryTooLate.is in record { value = p.0; read_back = p.1 }

pub returns-in-NotFound : goal.returns-in-NotFound
unfolding told_of fields_of
returns-in-NotFound c = let p = bare_told c.only-in-NotFound.ensures refl c.in-NotFound.is in record { value = p.0; read_back = p.1 }

pub returns-in-Exists : goal.returns-in-Exists
unfolding told_of fields_of
returns-in-Exists c = let p = bare_told c.only-in-Exists.ensures refl c.in-Exists.is in record { value = p.0; read_back = p.1 }

pub returns-in-NotNumber : goal.returns-in-NotNumber
unfolding told_of fields_of
returns-in-NotNumber c = let p = bare_told c.only-in-NotNumber.ensures refl c.in-NotNumber.is in record { value = p.0; read_back = p.1 }

pub returns-in-SumTooLarge : goal.returns-in-SumTooLarge
unfolding told_of fields_of
returns-in-SumTooLarge c = let p = bare_told c.only-in-SumTooLarge.ensures refl c.in-SumTooLarge.is in record { value = p.0; read_back = p.1 }

pub returns-in-NoMemory : goal.returns-in-NoMemory
unfolding told_of fields_of
returns-in-NoMemory c = let p = bare_told c.only-in-NoMemory.ensures refl c.in-NoMemory.is in record { value = p.0; read_back = p.1 }

pub returns-in-LineUnreadable : goal.returns-in-LineUnreadable
unfolding told_of fields_of
returns-in-LineUnreadable c = let p = bare_told c.only-in-LineUnreadable.ensures refl c.in-LineUnreadable.is in record { value = p.0; read_back = p.1 }
