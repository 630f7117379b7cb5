-- A timestamp's fields, read one after the other into six places: those read, with what is still to be read behind them, are all that the definition reads.
-- Assumes nothing.
use Prim.Native.Nat.{ℕ, zero, suc, ◌+◌, ◌-◌, ◌≤◌, ◌<◌}
use native.Mathlib.Omega.{arith}
use native.Mathlib.Numerals.{add-one}
use mathlib.Core.Path.{◌≡◌, refl, ◌∙◌, sym, ap}
use mathlib.Core.List.{List, [], ◌∷◌, ◌++◌, append_assoc, append-nil}
use lib.ListN.{length, get_or, take, set, length-set}
use lib.Seq.{take-suc-set, get_or-take, get_or-set_other, length-take-le}
use lib.Dec.{eqb, ltb}
use borrow.Author.Tests.{eq-eqb, ne_eqb, ltb-true, ltb-false}
use Rattle.numbers.specs.Outcome.{Outcome, gives, refuses, and_then}
use Rattle.numbers.specs.Answers.{Unsigned, var_uint}
use Rattle.numbers.proofs.Outcomes.{by_case, Each, given, each_then, each_pick, each_if}
use Rattle.timestamps.specs.Timestamp.{Values, before, after_value, fields_from, fields_of}
use Rattle.timestamps.specs.Private.Reading.{Filled, fields_given}
use Rattle.timestamps.specs.declared.timestamp.Fields.{Fields}
use Rattle.timestamps.specs.declared.timestamp.FieldsRead.{FieldsRead}

-- past its end a list has nothing
get_d_past : (values : List ℕ) (i : ℕ) → length values ≤ i → get_or values i 0 ≡ 0
get_d_past [] i h = refl
get_d_past (v ∷ vs) zero h = absurd (omega arith)
get_d_past (v ∷ vs) (suc i) h = get_d_past vs i (omega arith)

-- what is read behind values that were read before
abbrev onward : List ℕ → Outcome Values → Outcome Values
onward values (gives v) = gives (record { values = values ++ v.values; next = v.next })
onward values (refuses number position) = refuses number position

one_more : (values : List ℕ) (value : ℕ) (o : Outcome Values) → onward values (and_then o (before value)) ≡ onward (values ++ (value ∷ [])) o
one_more values value (gives v) = rw (append_assoc values (value ∷ []) v.values)
one_more values value (refuses number position) = refl

module _ (s : List ℕ) (end at : ℕ) (values : List ℕ) (n : ℕ) where
  fields_last : (u : Unsigned) → var_uint s at end ≡ gives u → u.next ≡ end → onward values (fields_from (suc n) s end at) ≡ gives (record { values = values ++ (u.value ∷ []); next = end })
  unfolding fields_from after_value
  fields_last u h e = rw (h, eq-eqb _ _ e)

  fields_on : (u : Unsigned) → var_uint s at end ≡ gives u → (u.next ≡ end → ⊥) → onward values (fields_from (suc n) s end at) ≡ onward (values ++ (u.value ∷ [])) (fields_from n s end u.next)
  unfolding fields_from after_value
  fields_on u h e = rw (h, ne_eqb _ _ e) (one_more values u.value (fields_from n s end u.next))

  fields_refused : (number position : ℕ) → var_uint s at end ≡ refuses number position → onward values (fields_from (suc n) s end at) ≡ refuses number position
  unfolding fields_from
  fields_refused number position h = rw h

fields_none : (s : List ℕ) (end at : ℕ) (values : List ℕ) → onward values (fields_from 0 s end at) ≡ gives (record { values = values; next = at })
unfolding fields_from
fields_none s end at values = rw (append-nil values)

onward_start : (o : Outcome Values) → o ≡ onward [] o
onward_start (gives v) = refl
onward_start (refuses number position) = refl

-- six values as fields, of which so many were read
abbrev counted : ℕ → List ℕ → Fields
counted count values =
    record {
      count = count;
      year = get_or values 0 0;
      month = get_or values 1 0;
      day = get_or values 2 0;
      hour = get_or values 3 0;
      minute = get_or values 4 0;
      second = get_or values 5 0;
    }

-- how far the reading is: `count` of the six places hold what was read, the others 0
pub record Progress (s : List ℕ) (end at : ℕ) (values : List ℕ) (count from : ℕ) : Type 0 where
  pub most : count ≤ 6
  pub size : length values ≡ 6
  pub zeros : (i : ℕ) → count ≤ i → get_or values i 0 ≡ 0
  pub same : fields_from 6 s end at ≡ onward (take count values) (fields_from (6 - count) s end from)

-- the places as fields are what was read
counted_is : (values : List ℕ) (count : ℕ) → length values ≡ 6 → count ≤ 6 → ((i : ℕ) → count ≤ i → get_or values i 0 ≡ 0) → counted count values ≡ fields_of (take count values)
unfolding fields_of
counted_is values count size most zeros =
    rw (size_is, place 0, place 1, place 2, place 3, place 4, place 5)
  where
    size_is : length (take count values) ≡ count
    size_is = length-take-le count values (omega arith)

    place : (i : ℕ) → get_or (take count values) i 0 ≡ get_or values i 0
    place i =
        by_case (ltb i count)
        (λ t. get_or-take count values i 0 (ltb-true i count t))
        (λ t.
        let l : count ≤ i = ltb-false i count t in
        get_d_past (take count values) i (omega (arith, size_is)) ∙ sym (zeros i l))

abbrev six_zeros : List ℕ
six_zeros = 0 ∷ 0 ∷ 0 ∷ 0 ∷ 0 ∷ 0 ∷ []

all_zero : (i : ℕ) → get_or six_zeros i 0 ≡ 0
all_zero zero = refl
all_zero (suc zero) = refl
all_zero (suc (suc zero)) = refl
all_zero (suc (suc (suc zero))) = refl
all_zero (suc (suc (suc (suc zero)))) = refl
all_zero (suc (suc (suc (suc (suc zero))))) = refl
all_zero (suc (suc (suc (suc (suc (suc i)))))) = refl

module _ (s : List ℕ) (end at : ℕ) where
  pub progress_start : Progress s end at six_zeros 0 at
  progress_start =
      record {
        most = omega arith;
        size = refl;
        zeros = λ i _. all_zero i;
        same = onward_start (fields_from 6 s end at);
      }

  module _ (values : List ℕ) (count from : ℕ) (p : Progress s end at values count from) where
    module _ (h : count < 6) where
      left : 6 - count ≡ suc (6 - (count + 1))
      left = omega arith

      module _ (value next : ℕ) (read : var_uint s from end ≡ gives (record { value = value; next = next })) where
        taken : take (count + 1) (set values count value) ≡ take count values ++ (value ∷ [])
        taken = rw add-one (take-suc-set values count value (omega (arith, p.size)))

        size : length (set values count value) ≡ 6
        size = length-set values count value ∙ p.size

        zeros : (i : ℕ) → count + 1 ≤ i → get_or (set values count value) i 0 ≡ 0
        zeros i l = get_or-set_other values count i value 0 (λ e. omega arith) ∙ p.zeros i (omega arith)

        pub progress_on : (next ≡ end → ⊥) → Progress s end at (set values count value) (count + 1) next
        progress_on e =
            record {
              most = omega arith;
              size = size;
              zeros = zeros;
              same = p.same ∙ rw (left, taken) (fields_on s end from (take count values) (6 - (count + 1)) _ read e);
            }

        pub progress_last : next ≡ end → gives (record { fields = counted (count + 1) (set values count value); next = next }) ≡ fields_given (fields_from 6 s end at)
        unfolding fields_given
        progress_last e =
            rw
            (p.same, left, fields_last s end from (take count values) (6 - (count + 1)) _ read e, ← taken, counted_is (set values count value) (count + 1) size (omega arith) zeros, e)

      pub progress_refused : (number position : ℕ) → var_uint s from end ≡ refuses number position → refuses number position ≡ fields_given (fields_from 6 s end at)
      unfolding fields_given
      progress_refused number position r =
          rw (p.same, left, fields_refused s end from (take count values) (6 - (count + 1)) number position r)

    pub progress_done : 6 ≤ count → gives (record { fields = counted count values; next = from }) ≡ fields_given (fields_from 6 s end at)
    unfolding fields_given
    progress_done h =
        let e : 6 - count ≡ 0 = omega arith in
        rw (p.same, e, fields_none s end from (take count values), counted_is values count p.size p.most p.zeros)

-- at most so many are read
pub fields_most : (n : ℕ) (s : List ℕ) (end at : ℕ) → Each (λ v. length v.values ≤ n) (fields_from n s end at)
unfolding fields_from after_value
fields_most zero s end at = given {a = record { values = []; next = at }} (omega arith)
fields_most (suc n) s end at =
    each_then {P = λ _. Unit {0}} (each_if (var_uint s at end) (λ _ _. tt)) (λ u _.
    each_pick (eqb u.next end) (λ _. given {a = record { values = u.value ∷ []; next = end }} (omega arith)) (λ _.
    each_then (fields_most n s end u.next) (λ v l. given {a = record { values = u.value ∷ v.values; next = v.next }} (omega arith))))

pub filled : (values : List ℕ) → length values ≤ 6 → Filled (fields_of values)
unfolding fields_of
filled values l =
    record {
      most = l;
      month = λ h. get_d_past values 1 (omega arith);
      day = λ h. get_d_past values 2 (omega arith);
    }

-- back from the answer
pub record FieldsFound (o : Outcome Values) (f : Fields) (next : ℕ) : Type 0 where
  pub values : List ℕ
  pub is : o ≡ gives (record { values = values; next = next })
  pub fields : f ≡ fields_of values

pub fields_found : (o : Outcome Values) {r : FieldsRead} → fields_given o ≡ gives r → FieldsFound o r.fields r.next
unfolding fields_given
fields_found (gives v) {r} e =
    let q : record { fields = fields_of v.values; next = v.next } ≡ r = cc in
    record { values = v.values; is = let n : v.next ≡ r.next = ap (λ (x : FieldsRead). x.next) q in rw (← n); fields = ap (λ (x : FieldsRead). x.fields) (sym q) }
fields_found (refuses number position) e = absurd (let z : ◌≡◌ {A = ℕ} 0 1 = cc in omega arith)

pub fields_cut : (o : Outcome Values) (n p : ℕ) → fields_given o ≡ refuses n p → o ≡ refuses n p
unfolding fields_given
fields_cut (gives v) n p h = absurd (let z : ◌≡◌ {A = ℕ} 0 1 = cc in omega arith)
fields_cut (refuses number position) n p h = cc
