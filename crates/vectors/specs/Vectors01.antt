-- Calls that the second program (second/) made, computed once more by the definitions: the whole answer, all words and all bytes.
-- Written by `cargo run --release --offline --bin vectors` in sessions/, not by hand.
use Rattle.std.specs.Prelude.{◌≡◌, refl, true, false, [], ◌∷◌, ◌++◌, replicate, pos, negsuc, None}
use Rattle.rules.specs.declared.Outcome.TheVariants.{Done, NotSound}
use Rattle.rules.specs.Layout.{encode, decode, flat, entries_of, key_of, memory_of}
use Rattle.rules.specs.LookUp.{same, key_is}
use Rattle.rules.specs.Place.{holds, held, free_run}
use Rattle.rules.specs.Soundness.{every, any, right_lengths, value_fits, entry_sound, none_shared, sound, keys_differ, audit}
use Rattle.rules.specs.Answer.{plain}
use Rattle.rules.specs.Checks.{refuse, check_lengths, check_sound}
use Rattle.rules.specs.Calls.{gave, call, fresh_work, fresh_call}

-- make_fresh: 0, rounds 0, removed 0
pub v001_make_fresh : fresh_call (1 ∷ replicate 13 0) (replicate 64 0) ≡ gave (plain Done 0) (1 ∷ replicate 13 0) (replicate 64 0)
unfolding entries_of decode right_lengths refuse check_lengths fresh_work fresh_call memory_of encode flat call
v001_make_fresh = refl

-- make_fresh: 0, rounds 0, removed 0
pub v002_make_fresh : fresh_call (1 ∷ 2 ∷ 74 ∷ 1 ∷ 4294967295 ∷ 2 ∷ 3 ∷ 1 ∷ 76 ∷ 3 ∷ 5 ∷ 0 ∷ 40 ∷ 8 ∷ replicate 12 0) (replicate 40 107 ++ 157 ∷ 60 ∷ replicate 6 255 ++ replicate 16 7 ++ 97 ∷ 98 ∷ 99 ∷ 1 ∷ replicate 60 7) ≡ gave (plain Done 0) (1 ∷ replicate 25 0) (replicate 128 0)
unfolding entries_of decode right_lengths refuse check_lengths fresh_work fresh_call memory_of encode flat call
v002_make_fresh = refl

-- make_fresh: 0, rounds 0, removed 0
pub v003_make_fresh : fresh_call (1 ∷ 1 ∷ 163 ∷ 4 ∷ 0 ∷ 0 ∷ 1 ∷ 95 ∷ replicate 18 0) (98 ∷ replicate 95 120 ++ replicate 32 7) ≡ gave (plain Done 0) (1 ∷ replicate 25 0) (replicate 128 0)
unfolding entries_of decode right_lengths refuse check_lengths fresh_work fresh_call memory_of encode flat call
v003_make_fresh = refl

-- make_fresh: 0, rounds 0, removed 0
pub v004_make_fresh : fresh_call (1 ∷ 1 ∷ 0 ∷ 4 ∷ 4294967295 ∷ 0 ∷ 2 ∷ 8 ∷ replicate 18 0) (97 ∷ 98 ∷ replicate 8 120 ++ replicate 22 0 ++ replicate 96 7) ≡ gave (plain Done 0) (1 ∷ replicate 25 0) (replicate 128 0)
unfolding entries_of decode right_lengths refuse check_lengths fresh_work fresh_call memory_of encode flat call
v004_make_fresh = refl

-- make_fresh: 0, rounds 0, removed 0
pub v005_make_fresh : fresh_call (1 ∷ 2 ∷ 0 ∷ 3 ∷ 4294967295 ∷ 1 ∷ 1 ∷ 8 ∷ 119 ∷ 1 ∷ 5 ∷ 0 ∷ 2 ∷ 1 ∷ replicate 12 0) (97 ∷ 98 ∷ 1 ∷ replicate 29 0 ++ 100 ∷ 150 ∷ 62 ∷ replicate 93 0) ≡ gave (plain Done 0) (1 ∷ replicate 25 0) (replicate 128 0)
unfolding entries_of decode right_lengths refuse check_lengths fresh_work fresh_call memory_of encode flat call
v005_make_fresh = refl

-- make_fresh: 1, rounds 0, removed 0
pub v006_make_fresh : fresh_call (1 ∷ 3 ∷ 119 ∷ 3 ∷ 5 ∷ 1 ∷ 2 ∷ 8 ∷ 116 ∷ 1 ∷ 5 ∷ 2 ∷ 1 ∷ 1 ∷ 105 ∷ 4 ∷ 4294967295 ∷ 0 ∷ 1 ∷ 30 ∷ replicate 6 0) [] ≡ gave (plain NotSound 0) (1 ∷ 3 ∷ 119 ∷ 3 ∷ 5 ∷ 1 ∷ 2 ∷ 8 ∷ 116 ∷ 1 ∷ 5 ∷ 2 ∷ 1 ∷ 1 ∷ 105 ∷ 4 ∷ 4294967295 ∷ 0 ∷ 1 ∷ 30 ∷ replicate 6 0) []
unfolding entries_of decode right_lengths refuse check_lengths fresh_work fresh_call memory_of encode flat call
v006_make_fresh = refl

-- make_fresh: 0, rounds 0, removed 0
pub v007_make_fresh : fresh_call (1 ∷ 2 ∷ 1 ∷ 3 ∷ 4294967295 ∷ 0 ∷ 1 ∷ 8 ∷ 0 ∷ 1 ∷ 0 ∷ 3 ∷ 2 ∷ 1 ∷ replicate 12 0) (99 ∷ 148 ∷ 146 ∷ 254 ∷ replicate 5 255 ++ replicate 87 0 ++ 97 ∷ 98 ∷ 1 ∷ replicate 29 7) ≡ gave (plain Done 0) (1 ∷ replicate 25 0) (replicate 128 0)
unfolding entries_of decode right_lengths refuse check_lengths fresh_work fresh_call memory_of encode flat call
v007_make_fresh = refl

-- make_fresh: 0, rounds 0, removed 0
pub v008_make_fresh : fresh_call (1 ∷ 2 ∷ 0 ∷ 3 ∷ 4294967295 ∷ 1 ∷ 1 ∷ 8 ∷ 1 ∷ 4 ∷ 4294967295 ∷ 0 ∷ 1 ∷ 8 ∷ replicate 12 0) (100 ∷ replicate 8 120 ++ replicate 23 0 ++ 97 ∷ 254 ∷ replicate 6 255 ++ 127 ∷ replicate 55 0 ++ replicate 32 7) ≡ gave (plain Done 0) (1 ∷ replicate 25 0) (replicate 128 0)
unfolding entries_of decode right_lengths refuse check_lengths fresh_work fresh_call memory_of encode flat call
v008_make_fresh = refl

-- make_fresh: 0, rounds 0, removed 0
pub v009_make_fresh : fresh_call (1 ∷ 2 ∷ 1 ∷ 3 ∷ 4294967295 ∷ 1 ∷ 3 ∷ 8 ∷ 75 ∷ 4 ∷ 0 ∷ 0 ∷ 1 ∷ 8 ∷ replicate 12 0) (99 ∷ replicate 8 120 ++ replicate 23 0 ++ 97 ∷ 98 ∷ 99 ∷ 207 ∷ 251 ∷ replicate 91 0) ≡ gave (plain Done 0) (1 ∷ replicate 25 0) (replicate 128 0)
unfolding entries_of decode right_lengths refuse check_lengths fresh_work fresh_call memory_of encode flat call
v009_make_fresh = refl

-- make_fresh: 1, rounds 0, removed 0
pub v010_make_fresh : fresh_call (1 ∷ 1 ∷ 0 ∷ 3 ∷ 0 ∷ 0 ∷ 3 ∷ 8 ∷ replicate 18 0) (97 ∷ 98 ∷ 99 ∷ 202 ∷ 7 ∷ replicate 27 0 ++ replicate 96 7 ++ 0 ∷ []) ≡ gave (plain NotSound 0) (1 ∷ 1 ∷ 0 ∷ 3 ∷ 0 ∷ 0 ∷ 3 ∷ 8 ∷ replicate 18 0) (97 ∷ 98 ∷ 99 ∷ 202 ∷ 7 ∷ replicate 27 0 ++ replicate 96 7 ++ 0 ∷ [])
unfolding entries_of decode right_lengths refuse check_lengths fresh_work fresh_call memory_of encode flat call
v010_make_fresh = refl

-- make_fresh: 0, rounds 0, removed 0
pub v011_make_fresh : fresh_call (1 ∷ 3 ∷ 0 ∷ 3 ∷ 5 ∷ 2 ∷ 1 ∷ 8 ∷ 93 ∷ 3 ∷ 5 ∷ 0 ∷ 2 ∷ 8 ∷ 0 ∷ 1 ∷ 5 ∷ 1 ∷ 1 ∷ 1 ∷ replicate 6 0) (97 ∷ 98 ∷ 164 ∷ 144 ∷ 215 ∷ 52 ∷ 77 ∷ 199 ∷ 38 ∷ 246 ∷ replicate 22 0 ++ 98 ∷ 1 ∷ replicate 30 0 ++ 99 ∷ 15 ∷ 24 ∷ replicate 61 0) ≡ gave (plain Done 0) (1 ∷ replicate 25 0) (replicate 128 0)
unfolding entries_of decode right_lengths refuse check_lengths fresh_work fresh_call memory_of encode flat call
v011_make_fresh = refl

-- audit: yes
pub v012_audit : audit (1 ∷ 1 ∷ 0 ∷ 3 ∷ 5 ∷ 0 ∷ 1 ∷ 8 ∷ replicate 18 0) (100 ∷ replicate 8 255 ++ replicate 119 7) ≡ true
unfolding entries_of decode holds held free_run every any right_lengths value_fits entry_sound none_shared sound refuse check_sound same key_of key_is keys_differ audit
v012_audit = refl

-- audit: yes
pub v013_audit : audit (1 ∷ replicate 13 0) (replicate 64 0) ≡ true
unfolding entries_of decode holds held free_run every any right_lengths value_fits entry_sound none_shared sound refuse check_sound same key_of key_is keys_differ audit
v013_audit = refl

-- audit: yes
pub v014_audit : audit (1 ∷ 4 ∷ 85 ∷ 3 ∷ 0 ∷ 3 ∷ 2 ∷ 8 ∷ 0 ∷ 3 ∷ 0 ∷ 2 ∷ 2 ∷ 8 ∷ 0 ∷ 3 ∷ 5 ∷ 1 ∷ 1 ∷ 8 ∷ 0 ∷ 3 ∷ 5 ∷ 0 ∷ 3 ∷ 8 ∷ []) (97 ∷ 98 ∷ 99 ∷ 16 ∷ 150 ∷ 254 ∷ replicate 5 255 ++ replicate 21 7 ++ 99 ∷ 169 ∷ 31 ∷ 149 ∷ 10 ∷ 6 ∷ 194 ∷ 129 ∷ 33 ∷ replicate 8 7 ++ 39 ∷ replicate 14 7 ++ 97 ∷ 98 ∷ 168 ∷ 251 ∷ 254 ∷ replicate 5 255 ++ replicate 22 7 ++ 98 ∷ 97 ∷ 1 ∷ replicate 6 0 ++ 128 ∷ replicate 22 7) ≡ true
unfolding entries_of decode holds held free_run every any right_lengths value_fits entry_sound none_shared sound refuse check_sound same key_of key_is keys_differ audit
v014_audit = refl

-- audit: yes
pub v015_audit : audit (1 ∷ 3 ∷ 140 ∷ 4 ∷ 4294967295 ∷ 2 ∷ 1 ∷ 40 ∷ 129 ∷ 1 ∷ 4294967295 ∷ 1 ∷ 3 ∷ 1 ∷ 0 ∷ 3 ∷ 0 ∷ 0 ∷ 2 ∷ 8 ∷ replicate 6 0) (97 ∷ 98 ∷ replicate 30 0 ++ 97 ∷ 98 ∷ 99 ∷ 1 ∷ replicate 28 0 ++ 100 ∷ replicate 40 120 ++ replicate 23 0) ≡ true
unfolding entries_of decode holds held free_run every any right_lengths value_fits entry_sound none_shared sound refuse check_sound same key_of key_is keys_differ audit
v015_audit = refl

-- audit: no
pub v016_audit : audit (1 ∷ 2 ∷ 143 ∷ 4 ∷ 0 ∷ 1 ∷ 3 ∷ 0 ∷ 0 ∷ 1 ∷ 5 ∷ 0 ∷ 2 ∷ 1 ∷ replicate 12 0) (98 ∷ 97 ∷ 1 ∷ replicate 29 0 ++ 97 ∷ 98 ∷ 99 ∷ replicate 93 7 ++ 0 ∷ []) ≡ false
unfolding entries_of decode holds held free_run every any right_lengths value_fits entry_sound none_shared sound refuse check_sound same key_of key_is keys_differ audit
v016_audit = refl

-- audit: no
pub v017_audit : audit (1 ∷ 1 ∷ 0 ∷ 3 ∷ 4294967295 ∷ 0 ∷ 1 ∷ 8 ∷ 0 ∷ []) (99 ∷ 166 ∷ 83 ∷ 1 ∷ replicate 28 0) ≡ false
unfolding entries_of decode holds held free_run every any right_lengths value_fits entry_sound none_shared sound refuse check_sound same key_of key_is keys_differ audit
v017_audit = refl

-- audit: yes
pub v018_audit : audit (1 ∷ 2 ∷ 97 ∷ 3 ∷ 5 ∷ 2 ∷ 2 ∷ 8 ∷ 0 ∷ 4 ∷ 0 ∷ 0 ∷ 2 ∷ 60 ∷ replicate 12 0) (97 ∷ 98 ∷ replicate 60 120 ++ 7 ∷ 7 ∷ 98 ∷ 97 ∷ 1 ∷ replicate 7 0 ++ replicate 54 7) ≡ true
unfolding entries_of decode holds held free_run every any right_lengths value_fits entry_sound none_shared sound refuse check_sound same key_of key_is keys_differ audit
v018_audit = refl

-- audit: no
pub v019_audit : audit (2 ∷ replicate 25 0) (replicate 128 7) ≡ false
unfolding entries_of decode holds held free_run every any right_lengths value_fits entry_sound none_shared sound refuse check_sound same key_of key_is keys_differ audit
v019_audit = refl

-- audit: yes
pub v020_audit : audit (1 ∷ 2 ∷ 127 ∷ 3 ∷ 4294967295 ∷ 0 ∷ 1 ∷ 8 ∷ 1 ∷ 4 ∷ 4294967295 ∷ 1 ∷ 1 ∷ 20 ∷ []) (98 ∷ 7 ∷ 105 ∷ 1 ∷ replicate 28 0 ++ 97 ∷ replicate 20 120 ++ replicate 11 0) ≡ true
unfolding entries_of decode holds held free_run every any right_lengths value_fits entry_sound none_shared sound refuse check_sound same key_of key_is keys_differ audit
v020_audit = refl

-- audit: yes
pub v021_audit : audit (1 ∷ 2 ∷ 1 ∷ 3 ∷ 4294967295 ∷ 0 ∷ 1 ∷ 8 ∷ 0 ∷ 1 ∷ 4294967295 ∷ 1 ∷ 2 ∷ 1 ∷ replicate 12 0) (97 ∷ 160 ∷ 3 ∷ 1 ∷ replicate 28 0 ++ 98 ∷ 97 ∷ 1 ∷ replicate 93 7) ≡ true
unfolding entries_of decode holds held free_run every any right_lengths value_fits entry_sound none_shared sound refuse check_sound same key_of key_is keys_differ audit
v021_audit = refl

-- audit: yes
pub v022_audit : audit (1 ∷ 2 ∷ 1 ∷ 3 ∷ 4294967295 ∷ 1 ∷ 1 ∷ 8 ∷ 1 ∷ 3 ∷ 5 ∷ 0 ∷ 1 ∷ 8 ∷ []) (100 ∷ 254 ∷ replicate 6 255 ++ 127 ∷ replicate 23 0 ++ 98 ∷ 196 ∷ 217 ∷ replicate 6 255 ++ replicate 23 0) ≡ true
unfolding entries_of decode holds held free_run every any right_lengths value_fits entry_sound none_shared sound refuse check_sound same key_of key_is keys_differ audit
v022_audit = refl

-- audit: yes
pub v023_audit : audit (1 ∷ 3 ∷ 143 ∷ 4 ∷ 0 ∷ 2 ∷ 2 ∷ 8 ∷ 0 ∷ 3 ∷ 0 ∷ 1 ∷ 1 ∷ 8 ∷ 113 ∷ 3 ∷ 5 ∷ 0 ∷ 1 ∷ 8 ∷ replicate 6 0) (98 ∷ 1 ∷ replicate 6 0 ++ 128 ∷ replicate 23 0 ++ 100 ∷ 254 ∷ replicate 6 255 ++ 127 ∷ replicate 23 0 ++ 98 ∷ 97 ∷ replicate 8 120 ++ replicate 54 0) ≡ true
unfolding entries_of decode holds held free_run every any right_lengths value_fits entry_sound none_shared sound refuse check_sound same key_of key_is keys_differ audit
v023_audit = refl

-- audit: no
pub v024_audit : audit (1 ∷ 2 ∷ 1 ∷ 3 ∷ 4294967295 ∷ 1 ∷ 2 ∷ 8 ∷ 0 ∷ 3 ∷ 5 ∷ 0 ∷ 2 ∷ 8 ∷ replicate 12 0) (98 ∷ 97 ∷ 91 ∷ 170 ∷ 254 ∷ replicate 5 255 ++ replicate 22 7 ++ 98 ∷ 97 ∷ 120 ∷ 254 ∷ 254 ∷ replicate 5 255 ++ replicate 86 7) ≡ false
unfolding entries_of decode holds held free_run every any right_lengths value_fits entry_sound none_shared sound refuse check_sound same key_of key_is keys_differ audit
v024_audit = refl

-- audit: no
pub v025_audit : audit (1 ∷ 2 ∷ 102 ∷ 4 ∷ 5 ∷ 1 ∷ 1 ∷ 20 ∷ 118 ∷ 3 ∷ 5 ∷ 0 ∷ 1 ∷ 8 ∷ replicate 12 0) (98 ∷ 204 ∷ 62 ∷ replicate 6 0 ++ replicate 23 7 ++ 98 ∷ replicate 20 120 ++ replicate 75 7) ≡ false
unfolding entries_of decode holds held free_run every any right_lengths value_fits entry_sound none_shared sound refuse check_sound same key_of key_is keys_differ audit
v025_audit = refl

-- audit: no
pub v026_audit : audit (1 ∷ 4 ∷ 102 ∷ 4 ∷ 4294967295 ∷ 3 ∷ 1 ∷ 0 ∷ 0 ∷ 3 ∷ 0 ∷ 2 ∷ 1 ∷ 8 ∷ 157 ∷ 3 ∷ 4294967295 ∷ 1 ∷ 2 ∷ 8 ∷ 0 ∷ 1 ∷ 4294967295 ∷ 0 ∷ 1 ∷ 1 ∷ []) (100 ∷ 1 ∷ replicate 30 0 ++ 97 ∷ 98 ∷ 128 ∷ 90 ∷ replicate 6 255 ++ replicate 22 0 ++ 97 ∷ 68 ∷ 128 ∷ 205 ∷ 200 ∷ 241 ∷ 153 ∷ 95 ∷ 253 ∷ replicate 23 0 ++ 100 ∷ replicate 31 0) ≡ false
unfolding entries_of decode holds held free_run every any right_lengths value_fits entry_sound none_shared sound refuse check_sound same key_of key_is keys_differ audit
v026_audit = refl

-- audit: no
pub v027_audit : audit (1 ∷ 2 ∷ 0 ∷ 3 ∷ 5 ∷ 1 ∷ 1 ∷ 8 ∷ 0 ∷ 1 ∷ 0 ∷ 0 ∷ 1 ∷ 1 ∷ replicate 12 0) (100 ∷ 1 ∷ replicate 30 0 ++ 100 ∷ 220 ∷ 154 ∷ 254 ∷ replicate 5 255 ++ replicate 87 0) ≡ false
unfolding entries_of decode holds held free_run every any right_lengths value_fits entry_sound none_shared sound refuse check_sound same key_of key_is keys_differ audit
v027_audit = refl

-- audit: no
pub v028_audit : audit (1 ∷ 2 ∷ 124 ∷ 3 ∷ 0 ∷ 0 ∷ 1 ∷ 8 ∷ 130 ∷ 1 ∷ 5 ∷ 1 ∷ 1 ∷ 1 ∷ replicate 12 0) (97 ∷ 1 ∷ replicate 6 0 ++ 128 ∷ replicate 23 0 ++ 97 ∷ 1 ∷ replicate 94 0) ≡ false
unfolding entries_of decode holds held free_run every any right_lengths value_fits entry_sound none_shared sound refuse check_sound same key_of key_is keys_differ audit
v028_audit = refl

-- audit: no
pub v029_audit : audit (1 ∷ 2 ∷ 99 ∷ 1 ∷ 4294967295 ∷ 2 ∷ 1 ∷ 1 ∷ 1 ∷ 4 ∷ 5 ∷ 0 ∷ 1 ∷ 60 ∷ replicate 12 0) (100 ∷ replicate 60 120 ++ 0 ∷ 0 ∷ 0 ∷ 100 ∷ 1 ∷ replicate 62 7) ≡ false
unfolding entries_of decode holds held free_run every any right_lengths value_fits entry_sound none_shared sound refuse check_sound same key_of key_is keys_differ audit
v029_audit = refl

-- audit: no
pub v030_audit : audit (0 ∷ 3 ∷ 0 ∷ 4 ∷ 5 ∷ 2 ∷ 1 ∷ 33 ∷ 0 ∷ 3 ∷ 5 ∷ 1 ∷ 1 ∷ 8 ∷ 0 ∷ 1 ∷ 5 ∷ 0 ∷ 1 ∷ 1 ∷ replicate 6 0) (97 ∷ 1 ∷ replicate 30 0 ++ 98 ∷ 120 ∷ 55 ∷ replicate 29 0 ++ 99 ∷ replicate 33 120 ++ replicate 30 0) ≡ false
unfolding entries_of decode holds held free_run every any right_lengths value_fits entry_sound none_shared sound refuse check_sound same key_of key_is keys_differ audit
v030_audit = refl

-- audit: no
pub v031_audit : audit (2 ∷ 3 ∷ 0 ∷ 4 ∷ 5 ∷ 2 ∷ 1 ∷ 33 ∷ 0 ∷ 3 ∷ 5 ∷ 1 ∷ 1 ∷ 8 ∷ 0 ∷ 1 ∷ 5 ∷ 0 ∷ 1 ∷ 1 ∷ replicate 6 0) (97 ∷ 1 ∷ replicate 30 0 ++ 98 ∷ 120 ∷ 55 ∷ replicate 29 0 ++ 99 ∷ replicate 33 120 ++ replicate 30 0) ≡ false
unfolding entries_of decode holds held free_run every any right_lengths value_fits entry_sound none_shared sound refuse check_sound same key_of key_is keys_differ audit
v031_audit = refl

-- audit: no
pub v032_audit : audit (1 ∷ 2 ∷ 0 ∷ 4 ∷ 5 ∷ 2 ∷ 1 ∷ 33 ∷ 0 ∷ 3 ∷ 5 ∷ 1 ∷ 1 ∷ 8 ∷ 0 ∷ 1 ∷ 5 ∷ 0 ∷ 1 ∷ 1 ∷ replicate 6 0) (97 ∷ 1 ∷ replicate 30 0 ++ 98 ∷ 120 ∷ 55 ∷ replicate 29 0 ++ 99 ∷ replicate 33 120 ++ replicate 30 0) ≡ false
unfolding entries_of decode holds held free_run every any right_lengths value_fits entry_sound none_shared sound refuse check_sound same key_of key_is keys_differ audit
v032_audit = refl

-- audit: no
pub v033_audit : audit (1 ∷ 4 ∷ 0 ∷ 4 ∷ 5 ∷ 2 ∷ 1 ∷ 33 ∷ 0 ∷ 3 ∷ 5 ∷ 1 ∷ 1 ∷ 8 ∷ 0 ∷ 1 ∷ 5 ∷ 0 ∷ 1 ∷ 1 ∷ replicate 6 0) (97 ∷ 1 ∷ replicate 30 0 ++ 98 ∷ 120 ∷ 55 ∷ replicate 29 0 ++ 99 ∷ replicate 33 120 ++ replicate 30 0) ≡ false
unfolding entries_of decode holds held free_run every any right_lengths value_fits entry_sound none_shared sound refuse check_sound same key_of key_is keys_differ audit
v033_audit = refl

-- audit: no
pub v034_audit : audit (1 ∷ 5 ∷ 0 ∷ 4 ∷ 5 ∷ 2 ∷ 1 ∷ 33 ∷ 0 ∷ 3 ∷ 5 ∷ 1 ∷ 1 ∷ 8 ∷ 0 ∷ 1 ∷ 5 ∷ 0 ∷ 1 ∷ 1 ∷ replicate 6 0) (97 ∷ 1 ∷ replicate 30 0 ++ 98 ∷ 120 ∷ 55 ∷ replicate 29 0 ++ 99 ∷ replicate 33 120 ++ replicate 30 0) ≡ false
unfolding entries_of decode holds held free_run every any right_lengths value_fits entry_sound none_shared sound refuse check_sound same key_of key_is keys_differ audit
v034_audit = refl

-- audit: no
pub v035_audit : audit (1 ∷ 3 ∷ 0 ∷ 0 ∷ 5 ∷ 2 ∷ 1 ∷ 33 ∷ 0 ∷ 3 ∷ 5 ∷ 1 ∷ 1 ∷ 8 ∷ 0 ∷ 1 ∷ 5 ∷ 0 ∷ 1 ∷ 1 ∷ replicate 6 0) (97 ∷ 1 ∷ replicate 30 0 ++ 98 ∷ 120 ∷ 55 ∷ replicate 29 0 ++ 99 ∷ replicate 33 120 ++ replicate 30 0) ≡ false
unfolding entries_of decode holds held free_run every any right_lengths value_fits entry_sound none_shared sound refuse check_sound same key_of key_is keys_differ audit
v035_audit = refl

-- audit: no
pub v036_audit : audit (1 ∷ 3 ∷ 0 ∷ 1 ∷ 5 ∷ 2 ∷ 1 ∷ 33 ∷ 0 ∷ 3 ∷ 5 ∷ 1 ∷ 1 ∷ 8 ∷ 0 ∷ 1 ∷ 5 ∷ 0 ∷ 1 ∷ 1 ∷ replicate 6 0) (97 ∷ 1 ∷ replicate 30 0 ++ 98 ∷ 120 ∷ 55 ∷ replicate 29 0 ++ 99 ∷ replicate 33 120 ++ replicate 30 0) ≡ false
unfolding entries_of decode holds held free_run every any right_lengths value_fits entry_sound none_shared sound refuse check_sound same key_of key_is keys_differ audit
v036_audit = refl

-- audit: no
pub v037_audit : audit (1 ∷ 3 ∷ 0 ∷ 2 ∷ 5 ∷ 2 ∷ 1 ∷ 33 ∷ 0 ∷ 3 ∷ 5 ∷ 1 ∷ 1 ∷ 8 ∷ 0 ∷ 1 ∷ 5 ∷ 0 ∷ 1 ∷ 1 ∷ replicate 6 0) (97 ∷ 1 ∷ replicate 30 0 ++ 98 ∷ 120 ∷ 55 ∷ replicate 29 0 ++ 99 ∷ replicate 33 120 ++ replicate 30 0) ≡ false
unfolding entries_of decode holds held free_run every any right_lengths value_fits entry_sound none_shared sound refuse check_sound same key_of key_is keys_differ audit
v037_audit = refl

-- audit: no
pub v038_audit : audit (1 ∷ 3 ∷ 0 ∷ 3 ∷ 5 ∷ 2 ∷ 1 ∷ 33 ∷ 0 ∷ 3 ∷ 5 ∷ 1 ∷ 1 ∷ 8 ∷ 0 ∷ 1 ∷ 5 ∷ 0 ∷ 1 ∷ 1 ∷ replicate 6 0) (97 ∷ 1 ∷ replicate 30 0 ++ 98 ∷ 120 ∷ 55 ∷ replicate 29 0 ++ 99 ∷ replicate 33 120 ++ replicate 30 0) ≡ false
unfolding entries_of decode holds held free_run every any right_lengths value_fits entry_sound none_shared sound refuse check_sound same key_of key_is keys_differ audit
v038_audit = refl

-- audit: no
pub v039_audit : audit (1 ∷ 3 ∷ 0 ∷ 5 ∷ 5 ∷ 2 ∷ 1 ∷ 33 ∷ 0 ∷ 3 ∷ 5 ∷ 1 ∷ 1 ∷ 8 ∷ 0 ∷ 1 ∷ 5 ∷ 0 ∷ 1 ∷ 1 ∷ replicate 6 0) (97 ∷ 1 ∷ replicate 30 0 ++ 98 ∷ 120 ∷ 55 ∷ replicate 29 0 ++ 99 ∷ replicate 33 120 ++ replicate 30 0) ≡ false
unfolding entries_of decode holds held free_run every any right_lengths value_fits entry_sound none_shared sound refuse check_sound same key_of key_is keys_differ audit
v039_audit = refl

-- audit: yes
pub v040_audit : audit (1 ∷ 3 ∷ 0 ∷ 4 ∷ 4294967295 ∷ 2 ∷ 1 ∷ 33 ∷ 0 ∷ 3 ∷ 5 ∷ 1 ∷ 1 ∷ 8 ∷ 0 ∷ 1 ∷ 5 ∷ 0 ∷ 1 ∷ 1 ∷ replicate 6 0) (97 ∷ 1 ∷ replicate 30 0 ++ 98 ∷ 120 ∷ 55 ∷ replicate 29 0 ++ 99 ∷ replicate 33 120 ++ replicate 30 0) ≡ true
unfolding entries_of decode holds held free_run every any right_lengths value_fits entry_sound none_shared sound refuse check_sound same key_of key_is keys_differ audit
v040_audit = refl

-- audit: no
pub v041_audit : audit (1 ∷ 3 ∷ 0 ∷ 4 ∷ 4294967296 ∷ 2 ∷ 1 ∷ 33 ∷ 0 ∷ 3 ∷ 5 ∷ 1 ∷ 1 ∷ 8 ∷ 0 ∷ 1 ∷ 5 ∷ 0 ∷ 1 ∷ 1 ∷ replicate 6 0) (97 ∷ 1 ∷ replicate 30 0 ++ 98 ∷ 120 ∷ 55 ∷ replicate 29 0 ++ 99 ∷ replicate 33 120 ++ replicate 30 0) ≡ false
unfolding entries_of decode holds held free_run every any right_lengths value_fits entry_sound none_shared sound refuse check_sound same key_of key_is keys_differ audit
v041_audit = refl

-- audit: no
pub v042_audit : audit (1 ∷ 3 ∷ 0 ∷ 4 ∷ 5 ∷ 1 ∷ 1 ∷ 33 ∷ 0 ∷ 3 ∷ 5 ∷ 1 ∷ 1 ∷ 8 ∷ 0 ∷ 1 ∷ 5 ∷ 0 ∷ 1 ∷ 1 ∷ replicate 6 0) (97 ∷ 1 ∷ replicate 30 0 ++ 98 ∷ 120 ∷ 55 ∷ replicate 29 0 ++ 99 ∷ replicate 33 120 ++ replicate 30 0) ≡ false
unfolding entries_of decode holds held free_run every any right_lengths value_fits entry_sound none_shared sound refuse check_sound same key_of key_is keys_differ audit
v042_audit = refl

-- audit: no
pub v043_audit : audit (1 ∷ 3 ∷ 0 ∷ 4 ∷ 5 ∷ 3 ∷ 1 ∷ 33 ∷ 0 ∷ 3 ∷ 5 ∷ 1 ∷ 1 ∷ 8 ∷ 0 ∷ 1 ∷ 5 ∷ 0 ∷ 1 ∷ 1 ∷ replicate 6 0) (97 ∷ 1 ∷ replicate 30 0 ++ 98 ∷ 120 ∷ 55 ∷ replicate 29 0 ++ 99 ∷ replicate 33 120 ++ replicate 30 0) ≡ false
unfolding entries_of decode holds held free_run every any right_lengths value_fits entry_sound none_shared sound refuse check_sound same key_of key_is keys_differ audit
v043_audit = refl

-- audit: no
pub v044_audit : audit (1 ∷ 3 ∷ 0 ∷ 4 ∷ 5 ∷ 18446744073709551615 ∷ 1 ∷ 33 ∷ 0 ∷ 3 ∷ 5 ∷ 1 ∷ 1 ∷ 8 ∷ 0 ∷ 1 ∷ 5 ∷ 0 ∷ 1 ∷ 1 ∷ replicate 6 0) (97 ∷ 1 ∷ replicate 30 0 ++ 98 ∷ 120 ∷ 55 ∷ replicate 29 0 ++ 99 ∷ replicate 33 120 ++ replicate 30 0) ≡ false
unfolding entries_of decode holds held free_run every any right_lengths value_fits entry_sound none_shared sound refuse check_sound same key_of key_is keys_differ audit
v044_audit = refl

-- audit: no
pub v045_audit : audit (1 ∷ 3 ∷ 0 ∷ 4 ∷ 5 ∷ 2 ∷ 1 ∷ 33 ∷ 0 ∷ 3 ∷ 5 ∷ 3 ∷ 1 ∷ 8 ∷ 0 ∷ 1 ∷ 5 ∷ 0 ∷ 1 ∷ 1 ∷ replicate 6 0) (97 ∷ 1 ∷ replicate 30 0 ++ 98 ∷ 120 ∷ 55 ∷ replicate 29 0 ++ 99 ∷ replicate 33 120 ++ replicate 30 0) ≡ false
unfolding entries_of decode holds held free_run every any right_lengths value_fits entry_sound none_shared sound refuse check_sound same key_of key_is keys_differ audit
v045_audit = refl

-- audit: no
pub v046_audit : audit (1 ∷ 3 ∷ 0 ∷ 4 ∷ 5 ∷ 2 ∷ 0 ∷ 33 ∷ 0 ∷ 3 ∷ 5 ∷ 1 ∷ 1 ∷ 8 ∷ 0 ∷ 1 ∷ 5 ∷ 0 ∷ 1 ∷ 1 ∷ replicate 6 0) (97 ∷ 1 ∷ replicate 30 0 ++ 98 ∷ 120 ∷ 55 ∷ replicate 29 0 ++ 99 ∷ replicate 33 120 ++ replicate 30 0) ≡ false
unfolding entries_of decode holds held free_run every any right_lengths value_fits entry_sound none_shared sound refuse check_sound same key_of key_is keys_differ audit
v046_audit = refl

-- audit: yes
pub v047_audit : audit (1 ∷ 3 ∷ 0 ∷ 4 ∷ 5 ∷ 2 ∷ 1 ∷ 63 ∷ 0 ∷ 3 ∷ 5 ∷ 1 ∷ 1 ∷ 8 ∷ 0 ∷ 1 ∷ 5 ∷ 0 ∷ 1 ∷ 1 ∷ replicate 6 0) (97 ∷ 1 ∷ replicate 30 0 ++ 98 ∷ 120 ∷ 55 ∷ replicate 29 0 ++ 99 ∷ replicate 33 120 ++ replicate 30 0) ≡ true
unfolding entries_of decode holds held free_run every any right_lengths value_fits entry_sound none_shared sound refuse check_sound same key_of key_is keys_differ audit
v047_audit = refl

-- audit: no
pub v048_audit : audit (1 ∷ 3 ∷ 0 ∷ 4 ∷ 5 ∷ 2 ∷ 1 ∷ 64 ∷ 0 ∷ 3 ∷ 5 ∷ 1 ∷ 1 ∷ 8 ∷ 0 ∷ 1 ∷ 5 ∷ 0 ∷ 1 ∷ 1 ∷ replicate 6 0) (97 ∷ 1 ∷ replicate 30 0 ++ 98 ∷ 120 ∷ 55 ∷ replicate 29 0 ++ 99 ∷ replicate 33 120 ++ replicate 30 0) ≡ false
unfolding entries_of decode holds held free_run every any right_lengths value_fits entry_sound none_shared sound refuse check_sound same key_of key_is keys_differ audit
v048_audit = refl

-- audit: no
pub v049_audit : audit (1 ∷ 3 ∷ 0 ∷ 4 ∷ 5 ∷ 2 ∷ 1 ∷ 18446744073709551615 ∷ 0 ∷ 3 ∷ 5 ∷ 1 ∷ 1 ∷ 8 ∷ 0 ∷ 1 ∷ 5 ∷ 0 ∷ 1 ∷ 1 ∷ replicate 6 0) (97 ∷ 1 ∷ replicate 30 0 ++ 98 ∷ 120 ∷ 55 ∷ replicate 29 0 ++ 99 ∷ replicate 33 120 ++ replicate 30 0) ≡ false
unfolding entries_of decode holds held free_run every any right_lengths value_fits entry_sound none_shared sound refuse check_sound same key_of key_is keys_differ audit
v049_audit = refl

-- audit: no
pub v050_audit : audit (1 ∷ 3 ∷ 0 ∷ 4 ∷ 5 ∷ 2 ∷ 1 ∷ 33 ∷ 0 ∷ 3 ∷ 5 ∷ 1 ∷ 1 ∷ 7 ∷ 0 ∷ 1 ∷ 5 ∷ 0 ∷ 1 ∷ 1 ∷ replicate 6 0) (97 ∷ 1 ∷ replicate 30 0 ++ 98 ∷ 120 ∷ 55 ∷ replicate 29 0 ++ 99 ∷ replicate 33 120 ++ replicate 30 0) ≡ false
unfolding entries_of decode holds held free_run every any right_lengths value_fits entry_sound none_shared sound refuse check_sound same key_of key_is keys_differ audit
v050_audit = refl

-- audit: no
pub v051_audit : audit (1 ∷ 3 ∷ 0 ∷ 4 ∷ 5 ∷ 2 ∷ 1 ∷ 33 ∷ 0 ∷ 3 ∷ 5 ∷ 1 ∷ 1 ∷ 8 ∷ 0 ∷ 1 ∷ 5 ∷ 0 ∷ 1 ∷ 2 ∷ replicate 6 0) (97 ∷ 1 ∷ replicate 30 0 ++ 98 ∷ 120 ∷ 55 ∷ replicate 29 0 ++ 99 ∷ replicate 33 120 ++ replicate 30 0) ≡ false
unfolding entries_of decode holds held free_run every any right_lengths value_fits entry_sound none_shared sound refuse check_sound same key_of key_is keys_differ audit
v051_audit = refl

-- audit: no
pub v052_audit : audit (1 ∷ 3 ∷ 0 ∷ 4 ∷ 5 ∷ 2 ∷ 1 ∷ 33 ∷ 0 ∷ 3 ∷ 5 ∷ 1 ∷ 1 ∷ 8 ∷ 0 ∷ 1 ∷ 5 ∷ 0 ∷ 1 ∷ 1 ∷ 1 ∷ replicate 5 0) (97 ∷ 1 ∷ replicate 30 0 ++ 98 ∷ 120 ∷ 55 ∷ replicate 29 0 ++ 99 ∷ replicate 33 120 ++ replicate 30 0) ≡ false
unfolding entries_of decode holds held free_run every any right_lengths value_fits entry_sound none_shared sound refuse check_sound same key_of key_is keys_differ audit
v052_audit = refl

-- audit: no
pub v053_audit : audit (1 ∷ 3 ∷ 0 ∷ 4 ∷ 5 ∷ 2 ∷ 1 ∷ 33 ∷ 0 ∷ 3 ∷ 5 ∷ 1 ∷ 1 ∷ 8 ∷ 0 ∷ 1 ∷ 5 ∷ 0 ∷ 1 ∷ 1 ∷ replicate 5 0 ++ 1 ∷ []) (97 ∷ 1 ∷ replicate 30 0 ++ 98 ∷ 120 ∷ 55 ∷ replicate 29 0 ++ 99 ∷ replicate 33 120 ++ replicate 30 0) ≡ false
unfolding entries_of decode holds held free_run every any right_lengths value_fits entry_sound none_shared sound refuse check_sound same key_of key_is keys_differ audit
v053_audit = refl

-- audit: yes
pub v054_audit : audit (1 ∷ 3 ∷ 0 ∷ 4 ∷ 5 ∷ 2 ∷ 1 ∷ 33 ∷ 0 ∷ 3 ∷ 5 ∷ 1 ∷ 1 ∷ 8 ∷ 0 ∷ 1 ∷ 5 ∷ 0 ∷ 1 ∷ 1 ∷ replicate 6 0) (97 ∷ replicate 31 0 ++ 98 ∷ 120 ∷ 55 ∷ replicate 29 0 ++ 99 ∷ replicate 33 120 ++ replicate 30 0) ≡ true
unfolding entries_of decode holds held free_run every any right_lengths value_fits entry_sound none_shared sound refuse check_sound same key_of key_is keys_differ audit
v054_audit = refl

-- audit: yes
pub v055_audit : audit (1 ∷ 3 ∷ 0 ∷ 4 ∷ 5 ∷ 2 ∷ 1 ∷ 33 ∷ 0 ∷ 3 ∷ 5 ∷ 1 ∷ 1 ∷ 8 ∷ 0 ∷ 1 ∷ 5 ∷ 0 ∷ 1 ∷ 1 ∷ replicate 6 0) (97 ∷ 1 ∷ replicate 30 0 ++ 98 ∷ 120 ∷ 55 ∷ replicate 29 0 ++ 99 ∷ replicate 33 120 ++ replicate 30 0) ≡ true
unfolding entries_of decode holds held free_run every any right_lengths value_fits entry_sound none_shared sound refuse check_sound same key_of key_is keys_differ audit
v055_audit = refl

-- audit: no
pub v056_audit : audit (1 ∷ 3 ∷ 0 ∷ 4 ∷ 5 ∷ 2 ∷ 1 ∷ 33 ∷ 0 ∷ 3 ∷ 5 ∷ 1 ∷ 1 ∷ 8 ∷ 0 ∷ 1 ∷ 5 ∷ 0 ∷ 1 ∷ 1 ∷ replicate 6 0) (97 ∷ 2 ∷ replicate 30 0 ++ 98 ∷ 120 ∷ 55 ∷ replicate 29 0 ++ 99 ∷ replicate 33 120 ++ replicate 30 0) ≡ false
unfolding entries_of decode holds held free_run every any right_lengths value_fits entry_sound none_shared sound refuse check_sound same key_of key_is keys_differ audit
v056_audit = refl

-- audit: no
pub v057_audit : audit (1 ∷ 0 ∷ []) [] ≡ false
unfolding entries_of decode holds held free_run every any right_lengths value_fits entry_sound none_shared sound refuse check_sound same key_of key_is keys_differ audit
v057_audit = refl

-- audit: yes
pub v058_audit : audit (1 ∷ replicate 6145 0) (replicate 32768 0) ≡ true
unfolding entries_of decode holds held free_run every any right_lengths value_fits entry_sound none_shared sound refuse check_sound same key_of key_is keys_differ audit
v058_audit = refl

-- audit: no
pub v059_audit : audit (1 ∷ replicate 6151 0) (replicate 32800 0) ≡ false
unfolding entries_of decode holds held free_run every any right_lengths value_fits entry_sound none_shared sound refuse check_sound same key_of key_is keys_differ audit
v059_audit = refl

-- audit: no
pub v060_audit : audit (1 ∷ replicate 7 0) (replicate 33 0) ≡ false
unfolding entries_of decode holds held free_run every any right_lengths value_fits entry_sound none_shared sound refuse check_sound same key_of key_is keys_differ audit
v060_audit = refl
