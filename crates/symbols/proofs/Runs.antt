-- The lookup's steps are the reader's own: along a run of steps it goes from what was kept to what the items handed out make of it.
-- Assumes nothing.
use Prim.Native.Nat.{ℕ, zero, suc, ◌+◌, ◌-◌, ◌≤◌, ◌<◌}
use native.Mathlib.Omega.{arith}
use borrow.Author.Tests.{eq-eqb, ne_eqb, le-ltb, eqb-true}
use mathlib.Core.Path.{◌≡◌, refl, ◌∙◌, sym, ap, subst}
use mathlib.Core.Bool.{Bool, true, false, true≢false}
use mathlib.Core.List.{List, [], ◌∷◌}
use lib.ListN.{length}
use lib.Dec.{ltb, eqb}
use Rattle.numbers.specs.Outcome.{Outcome, gives, refuses, pick, and_then}
use Rattle.framing.specs.Spans.{Spans}
use Rattle.stepping.specs.Items.{Item, finish, marker, value, field, item_end}
use Rattle.stepping.specs.Answers.{Stepped, after, found, step_of, answer_at}
use Rattle.stepping.specs.Leaving.{is_last}
use Rattle.stepping.specs.Runs.{cursor, Answers, Run, none, call, handed_out, items, last_end}
use Rattle.stepping.specs.declared.cursor.Cursor.{Cursor}
use Rattle.stepping.specs.declared.cursor.Rules.{Rules}
use Rattle.stepping.specs.declared.cursor.Rules.TheVariants.{Stream, Sequence, Fields}
use Rattle.symbols.specs.Turns.{Turn, over, further, turned, meets, step_until, step_all}
use Rattle.symbols.specs.Text.{is_table, Ruling, system_alone, table, tabled, on_stream, ruling_at, Own, no_list, SymbolsField, on_field, own_list, unknown, entry_text, on_entry, own_text}
use Rattle.symbols.specs.TextTheorems.{AllHanded, none_handed, also_handed, item_start, ruled_behind, RulingOfRuns, PlaceGiven, PlacesGiven, list_behind, ListOfRuns, EntryOfRuns}
use Rattle.symbols.proofs.Answered.{Met, ended, a_marker, a_value, a_field, met, is_handed, is-handed}
use Rattle.symbols.proofs.Stepping.{steps_over, steps_further, Leads, stops, goes}
use Rattle.symbols.proofs.Handlers.{stream_follows, field_follows, entry_follows}

-- ---- a call that hands an item out

-- the item, and that the next call begins at its end
record Handed (limit : ℕ) (rules : Rules) (s : List ℕ) (c : Cursor) (r : Stepped) : Type 0 where
  pub item : Item
  pub live : is_last (gives item) ≡ false
  pub answered : answer_at limit rules s c.at c.end ≡ gives item
  pub out : (is : List Item) → handed_out r.answer is ≡ item ∷ is
  pub next : r.next ≡ cursor (item_end item) c.end

by_answer : (limit : ℕ) (rules : Rules) (s : List ℕ) (c : Cursor) (o : Outcome Item) (n : Cursor) → is_last o ≡ false → answer_at limit rules s c.at c.end ≡ o → n ≡ after c o → Handed limit rules s c (record { answer = o; next = n })
by_answer limit rules s c (gives (finish p)) n h q e = absurd (true≢false h)
by_answer limit rules s c (gives (marker a x y z)) n h q e = record { item = marker a x y z; live = refl; answered = q; out = λ _. refl; next = e }
by_answer limit rules s c (gives (value v)) n h q e = record { item = value v; live = refl; answered = q; out = λ _. refl; next = e }
by_answer limit rules s c (gives (field id a v)) n h q e = record { item = field id a v; live = refl; answered = q; out = λ _. refl; next = e }
by_answer limit rules s c (refuses n p) m h q e = absurd (true≢false h)

handed : (limit : ℕ) (rules : Rules) (s : List ℕ) (c : Cursor) (r : Stepped) → Answers limit rules s c r → is_last r.answer ≡ false → Handed limit rules s c r
unfolding step_of
handed limit rules s c r a h =
    let q : r.answer ≡ (found limit rules s c).answer = ap (λ (x : Stepped). x.answer) a in
    by_answer limit rules s c r.answer r.next h (sym q) (ap (λ (x : Stepped). x.next) a ∙ ap (after c) (sym q))

-- what is answered behind the whole run is answered behind the rest of it
rest_answer : (limit : ℕ) (rules : Rules) (s : List ℕ) (c : Cursor) (r : Stepped) (is : List Item) (i : Item) (d : Handed limit rules s c r) → answer_at limit rules s (last_end c.at (handed_out r.answer is)) c.end ≡ gives i → answer_at limit rules s (last_end r.next.at is) r.next.end ≡ gives i
rest_answer limit rules s c r is i d q =
    ap (λ (n : Cursor). answer_at limit rules s (last_end n.at is) n.end) d.next
    ∙ sym (ap (λ (js : List Item). answer_at limit rules s (last_end c.at js) c.end) (d.out is))
    ∙ q

-- ---- what rules

begins : {s : List ℕ} {at hi : ℕ} {o : Outcome Item} {i : Item} → Met s at hi o → o ≡ gives i → at ≤ item_start i
begins {at = at} {i = i} m q = go (subst (Met _ at _) q m)
  where
    go : {s : List ℕ} {hi : ℕ} {i : Item} → Met s at hi (gives i) → at ≤ item_start i
    go (ended l) = l
    go (a_marker l _ _) = l
    go (a_value v) = v.starts
    go (a_field l _) = l

passes : {s : List ℕ} {at hi : ℕ} {i : Item} → Met s at hi (gives i) → is_last (gives i) ≡ false → at < item_end i
passes (ended _) h = absurd (true≢false h)
passes (a_marker l m _) h = omega arith
passes (a_value v) h = omega (arith, v.starts, v.header, v.order)
passes (a_field _ v) h = omega (arith, v.starts, v.header, v.order)

module _ (limit : ℕ) (s : List ℕ) where
  item_met : (rules : Rules) (at end : ℕ) (i : Item) → answer_at limit rules s at end ≡ gives i → Met s at end (gives i)
  item_met rules at end i q = subst (Met s at end) q (met limit rules s at end)

  item_handed : (rules : Rules) (at end : ℕ) (i : Item) → answer_at limit rules s at end ≡ gives i → is_handed (gives i) rules ≡ true
  item_handed rules at end i q = subst (λ (o : Outcome Item). is_handed o rules ≡ true) q (is-handed limit rules s at end)

  -- the place is not before the run
  ahead : {c : Cursor} {rs : List Stepped} (i : Item) → Run (Answers limit Stream s) c rs → AllHanded rs → answer_at limit Stream s (last_end c.at (items rs)) c.end ≡ gives i → c.at ≤ item_start i
  ahead {c} i none h q = begins (met limit Stream s c.at c.end) q
  ahead i (call {c} {r} {rs} a run) (also_handed l hs) q =
      let d = handed limit Stream s c r a l in
      let n = ahead i run hs (rest_answer limit Stream s c r (items rs) i d q) in
      let e : r.next.at ≡ item_end d.item = ap (λ (x : Cursor). x.at) d.next in
      omega (arith, passes (item_met Stream c.at c.end d.item d.answered) d.live)

  -- the item at the place ends it
  there : (r : Ruling) (i : Item) → is_handed (gives i) Stream ≡ true → on_stream s (item_start i) r i ≡ over (gives r)
  unfolding on_stream
  there r (finish p) h = rw (eq-eqb p p refl)
  there r (marker a x y e) h = rw (eq-eqb a a refl)
  there r (value v) h = rw (eq-eqb v.start v.start refl)
  there r (field id a v) h = absurd (true≢false (sym h))

  module _ (place end : ℕ) where
    behind_value : (at : ℕ) (r : Ruling) (is : List Item) (v : Spans) → answer_at limit Stream s at end ≡ gives (value v) → v.start < v.end → v.end ≤ place → ((r : Ruling) → step_all limit Stream s (on_stream s place) v.end end r ≡ ruled_behind s is r) → (o : Outcome Bool) → is_table s v ≡ o → step_all limit Stream s (on_stream s place) at end r ≡ and_then o (λ t. ruled_behind s is (pick t (table v.body v.end) r))
    unfolding on_stream
    behind_value at r is v q l m ih (gives t) e =
        steps_further limit Stream s end (on_stream s place) (stream_follows s place) at r v.end (pick t (table v.body v.end) r)
        (ap (meets (on_stream s place) r) q ∙ rw (ne_eqb v.start place (λ z. omega arith), le-ltb place v.end m, e))
        ∙ ih (pick t (table v.body v.end) r)
    behind_value at r is v q l m ih (refuses n p) e =
        steps_over limit Stream s end (on_stream s place) (stream_follows s place) at r (refuses n p)
        (ap (meets (on_stream s place) r) q ∙ rw (ne_eqb v.start place (λ z. omega arith), le-ltb place v.end m, e))

    -- an item before the place
    behind_item : (at : ℕ) (r : Ruling) (is : List Item) (i : Item) → answer_at limit Stream s at end ≡ gives i → is_handed (gives i) Stream ≡ true → Met s at end (gives i) → is_last (gives i) ≡ false → item_end i ≤ place → ((r : Ruling) → step_all limit Stream s (on_stream s place) (item_end i) end r ≡ ruled_behind s is r) → step_all limit Stream s (on_stream s place) at end r ≡ ruled_behind s (i ∷ is) r
    unfolding on_stream
    behind_item at r is (finish p) q h b live m ih = absurd (true≢false live)
    behind_item at r is (marker a x y e) q h (a_marker _ l _) live m ih =
        steps_further limit Stream s end (on_stream s place) (stream_follows s place) at r e system_alone
        (ap (meets (on_stream s place) r) q ∙ rw (ne_eqb a place (λ z. omega arith), le-ltb place e m))
        ∙ ih system_alone
    behind_item at r is (value v) q h (a_value b) live m ih = behind_value at r is v q (omega (arith, b.header, b.order)) m ih (is_table s v) refl
    behind_item at r is (field id a v) q h b live m ih = absurd (true≢false (sym h))

  ruling_behind : {c : Cursor} {rs : List Stepped} (i : Item) → Run (Answers limit Stream s) c rs → AllHanded rs → answer_at limit Stream s (last_end c.at (items rs)) c.end ≡ gives i → (r : Ruling) → step_all limit Stream s (on_stream s (item_start i)) c.at c.end r ≡ ruled_behind s (items rs) r
  ruling_behind {c} i none h q r =
      steps_over limit Stream s c.end (on_stream s (item_start i)) (stream_follows s (item_start i)) c.at r (gives r)
      (ap (meets (on_stream s (item_start i)) r) q ∙ there r i (item_handed Stream c.at c.end i q))
  ruling_behind i (call {c} {r = t} {rs} a run) (also_handed l hs) q r =
      let d = handed limit Stream s c t a l in
      let q' = rest_answer limit Stream s c t (items rs) i d q in
      let n = ahead i run hs q' in
      let e : t.next.at ≡ item_end d.item = ap (λ (x : Cursor). x.at) d.next in
      behind_item (item_start i) c.end c.at r (items rs) d.item d.answered (item_handed Stream c.at c.end d.item d.answered) (item_met Stream c.at c.end d.item d.answered) d.live (omega arith)
      (subst (λ (x : Cursor). (r : Ruling) → step_all limit Stream s (on_stream s (item_start i)) x.at x.end r ≡ ruled_behind s (items rs) r) d.next (ruling_behind i run hs q'))
      ∙ sym (ap (λ (js : List Item). ruled_behind s js r) (d.out (items rs)))

pub ruling_of_runs : RulingOfRuns
unfolding ruling_at
ruling_of_runs limit s start end rs i run h q = ruling_behind limit s i run h q system_alone

-- ---- the place is given by a step

not_refused : {A : Type 0} {X : Type 0} {n p : ℕ} {a : A} → ◌≡◌ {A = Outcome A} (refuses n p) (gives a) → X
not_refused q = absurd (let z : ◌≡◌ {A = ℕ} 0 1 = cc in omega arith)

-- the tests of an item on the way to the place
on_the_way : {X : Type 0} (go : ℕ → Ruling → Outcome Ruling) (r r' : Ruling) (t : Turn Ruling Ruling) (b c : Bool) → turned go (pick b (over (gives r)) (pick c (over (refuses 50 0)) t)) ≡ gives r' → (b ≡ true → X) → (turned go t ≡ gives r' → X) → X
on_the_way go r r' t true c h f g = f refl
on_the_way go r r' t false true h f g = not_refused h
on_the_way go r r' t false false h f g = g h

module _ (limit : ℕ) (s : List ℕ) (end place : ℕ) where
  at_once : (at : ℕ) (i : Item) → answer_at limit Stream s at end ≡ gives i → item_start i ≡ place → PlaceGiven limit s at end place
  at_once at i q e = record { calls = []; run = none; handed = none_handed; item = i; next = q; begins = e }

  -- a call more before a run
  earlier : (at : ℕ) (i : Item) → answer_at limit Stream s at end ≡ gives i → is_last (gives i) ≡ false → PlaceGiven limit s (item_end i) end place → PlaceGiven limit s at end place
  unfolding step_of
  earlier at i q live g =
      let c = cursor at end in
      let t : Stepped = step_of limit Stream s c in
      let e : after c t.answer ≡ cursor (item_end i) end = ap (after c) q in
      record {
        calls = t ∷ g.calls;
        run = call refl (subst (λ (n : Cursor). Run (Answers limit Stream s) n g.calls) (sym e) g.run);
        handed = also_handed (ap is_last q ∙ live) g.handed;
        item = g.item;
        next =
            ap (λ (o : Outcome Item). answer_at limit Stream s (last_end at (handed_out o (items g.calls))) end) q
            ∙ ap (λ (js : List Item). answer_at limit Stream s (last_end at js) end) (out_of i live (items g.calls))
            ∙ g.next;
        begins = g.begins;
      }
    where
      out_of : (i : Item) → is_last (gives i) ≡ false → (is : List Item) → handed_out (gives i) is ≡ i ∷ is
      out_of (finish p) h is = absurd (true≢false h)
      out_of (marker a x y e) h is = refl
      out_of (value v) h is = refl
      out_of (field id a v) h is = refl

  module _ (go : ℕ → Ruling → Outcome Ruling) (found-by : (at : ℕ) (r r' : Ruling) → go at r ≡ gives r' → PlaceGiven limit s at end place) where
    by_table : (v : Spans) (r r' : Ruling) (o : Outcome Bool) → turned go (tabled v r o) ≡ gives r' → PlaceGiven limit s v.end end place
    by_table v r r' (gives t) h = found-by v.end (pick t (table v.body v.end) r) r' h
    by_table v r r' (refuses n p) h = not_refused h

    by_item : (at : ℕ) (r r' : Ruling) (o : Outcome Item) → answer_at limit Stream s at end ≡ o → turned go (meets (on_stream s place) r o) ≡ gives r' → PlaceGiven limit s at end place
    unfolding on_stream
    by_item at r r' (gives (finish p)) q h =
        on_the_way go r r' (over (refuses 50 0)) (eqb p place) true h (λ e. at_once at (finish p) q (eqb-true p place e)) (λ z. not_refused z)
    by_item at r r' (gives (marker a x y e)) q h =
        on_the_way go r r' (further e system_alone) (eqb a place) (ltb place e) h (λ z. at_once at (marker a x y e) q (eqb-true a place z)) (λ z. earlier at (marker a x y e) q refl (found-by e system_alone r' z))
    by_item at r r' (gives (value v)) q h =
        on_the_way go r r' (tabled v r (is_table s v)) (eqb v.start place) (ltb place v.end) h (λ z. at_once at (value v) q (eqb-true v.start place z)) (λ z. earlier at (value v) q refl (by_table v r r' (is_table s v) z))
    by_item at r r' (gives (field id a v)) q h = not_refused h
    by_item at r r' (refuses n p) q h = not_refused h

  found_at : (k at : ℕ) (r r' : Ruling) → step_until limit Stream s end (on_stream s place) k at r ≡ gives r' → PlaceGiven limit s at end place
  unfolding step_until
  found_at zero at r r' h = not_refused h
  found_at (suc k) at r r' h = by_item (step_until limit Stream s end (on_stream s place) k) (found_at k) at r r' (answer_at limit Stream s at end) refl h

pub places_given : PlacesGiven
unfolding ruling_at step_all
places_given limit s start end place r q = found_at limit s end place (suc (end - start)) start system_alone r q

-- ---- the list of a table

module _ (limit : ℕ) (s : List ℕ) where
  -- what an item leads to is at its end
  led : (at end : ℕ) (y : SymbolsField) (is : List Item) (i : Item) (t : Turn SymbolsField Own) → answer_at limit Fields s at end ≡ gives i → on_field y i ≡ t → Leads i t → ((z : SymbolsField) → step_all limit Fields s on_field (item_end i) end z ≡ list_behind is z) → step_all limit Fields s on_field at end y ≡ turned (λ at z. list_behind is z) t
  led at end y is i (over o) q e stops ih = steps_over limit Fields s end on_field field_follows at y o (ap (meets on_field y) q ∙ e)
  led at end y is i (further p z) q e (goes _) ih = steps_further limit Fields s end on_field field_follows at y (item_end i) z (ap (meets on_field y) q ∙ e) ∙ ih z

  list-behind : {c : Cursor} {rs : List Stepped} → Run (Answers limit Fields s) c rs → AllHanded rs → answer_at limit Fields s (last_end c.at (items rs)) c.end ≡ gives (finish c.end) → (y : SymbolsField) → step_all limit Fields s on_field c.at c.end y ≡ list_behind (items rs) y
  unfolding on_field
  list-behind {c} none h q y =
      steps_over limit Fields s c.end on_field field_follows c.at y (gives y.list) (ap (meets on_field y) q)
  list-behind (call {c} {r} {rs} a run) (also_handed l hs) q y =
      let d = handed limit Fields s c r a l in
      let e : r.next.end ≡ c.end = ap (λ (x : Cursor). x.end) d.next in
      let q' = rest_answer limit Fields s c r (items rs) (finish c.end) d q in
      led c.at c.end y (items rs) d.item (on_field y d.item) d.answered refl (field_follows y d.item)
      (subst (λ (x : Cursor). (y : SymbolsField) → step_all limit Fields s on_field x.at x.end y ≡ list_behind (items rs) y) d.next
      (list-behind run hs (q' ∙ ap (λ (n : ℕ). gives (finish n)) (sym e))))
      ∙ sym (ap (λ (js : List Item). list_behind js y) (d.out (items rs)))

pub list_of_runs : ListOfRuns
unfolding own_list
list_of_runs limit s start end rs run h q = list-behind limit s run h q (record { met = false; list = no_list })

-- ---- the entry of a list

module _ (limit : ℕ) (s : List ℕ) where
  -- an entry before the one looked up
  entry_passed : (at end n : ℕ) (i : Item) → answer_at limit Sequence s at end ≡ gives i → is_handed (gives i) Sequence ≡ true → is_last (gives i) ≡ false → step_all limit Sequence s (on_entry s) at end (suc n) ≡ step_all limit Sequence s (on_entry s) (item_end i) end n
  unfolding on_entry
  entry_passed at end n (finish p) q h live = absurd (true≢false live)
  entry_passed at end n (marker a x y e) q h live = absurd (true≢false (sym h))
  entry_passed at end n (value v) q h live =
      let d : suc n - 1 ≡ n = omega arith in
      steps_further limit Sequence s end (on_entry s) (entry_follows s) at (suc n) v.end n
      (ap (meets (on_entry s) (suc n)) q ∙ rw (ne_eqb (suc n) 0 (λ z. omega arith), d))
  entry_passed at end n (field id a v) q h live = absurd (true≢false (sym h))

  entries_passed : {c : Cursor} {rs : List Stepped} → Run (Answers limit Sequence s) c rs → AllHanded rs → (n : ℕ) → step_all limit Sequence s (on_entry s) c.at c.end (length rs + n) ≡ step_all limit Sequence s (on_entry s) (last_end c.at (items rs)) c.end n
  entries_passed {c} none h n = let z : 0 + n ≡ n = omega arith in ap (step_all limit Sequence s (on_entry s) c.at c.end) z
  entries_passed (call {c} {r} {rs} a run) (also_handed l hs) n =
      let d = handed limit Sequence s c r a l in
      let z : suc (length rs) + n ≡ suc (length rs + n) = omega arith in
      ap (step_all limit Sequence s (on_entry s) c.at c.end) z
      ∙ entry_passed c.at c.end (length rs + n) d.item d.answered (subst (λ (o : Outcome Item). is_handed o Sequence ≡ true) d.answered (is-handed limit Sequence s c.at c.end)) d.live
      ∙ subst (λ (x : Cursor). step_all limit Sequence s (on_entry s) x.at x.end (length rs + n) ≡ step_all limit Sequence s (on_entry s) (last_end x.at (items rs)) x.end n) d.next (entries_passed run hs n)
      ∙ sym (ap (λ (js : List Item). step_all limit Sequence s (on_entry s) (last_end c.at js) c.end n) (d.out (items rs)))

pub entry_of_runs : EntryOfRuns
unfolding own_text on_entry
entry_of_runs limit s start end rs run h =
    record {
      entry = λ v q.
          let z : length rs + 0 ≡ length rs = omega arith in
          ap (step_all limit Sequence s (on_entry s) start end) (sym z)
          ∙ entries_passed limit s run h 0
          ∙ steps_over limit Sequence s end (on_entry s) (entry_follows s) (last_end start (items rs)) 0 (entry_text s v) (ap (meets (on_entry s) 0) q);
      past = λ n q.
          entries_passed limit s run h n
          ∙ steps_over limit Sequence s end (on_entry s) (entry_follows s) (last_end start (items rs)) n (gives unknown) (ap (meets (on_entry s) n) q);
    }
