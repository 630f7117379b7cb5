-- In an accepted map nothing that is reached is refused: from each place of a reached part the check of what is left gives counts, so the step there is not
-- refused, the value that it hands out was read, and what is in a container was checked.
-- Assumes nothing.
use Prim.Native.Nat.{ℕ, ◌+◌, ◌-◌, ◌≤◌}
use native.Mathlib.Omega.{arith}
use borrow.Author.Tests.{le-ltb, ltb-true, ltb-false, eq-eqb}
use mathlib.Core.Path.{◌≡◌, refl, ◌∙◌, sym, ap, subst}
use mathlib.Core.Bool.{true, false}
use mathlib.Core.Logic.{⊎_elim}
use mathlib.Core.List.Memᴰ
use mathlib.Core.List.{List, Memᴰ}
use lib.ListN.{length}
use lib.Dec.{ltb}
use Rattle.numbers.specs.Outcome.{Outcome, gives, refuses, pick, and_then}
use Rattle.numbers.proofs.Outcomes.{by_case, then_gives, refuse_gives, each_of, within_part}
use Rattle.framing.specs.Limits.{out_of_range}
use Rattle.framing.specs.Spans.{Spans}
use Rattle.framing.specs.Answers.{Annotated, ident, finished, read_annotation, read_value}
use Rattle.framing.proofs.Bounds.{read_value_each}
use Rattle.stepping.specs.Items.{Item, finish, marker, value, field}
use Rattle.stepping.specs.Answers.{found, after, Stepped, step_of}
use Rattle.stepping.specs.Meaning.{Stands, the_end, the_item, refused_there, no_part, no_limit}
use Rattle.stepping.specs.Runs.{cursor, Answers, Run, none, call, handed_out, items}
use Rattle.stepping.specs.declared.cursor.Cursor.{Cursor}
use Rattle.stepping.specs.declared.cursor.Rules.{Rules}
use Rattle.stepping.specs.declared.cursor.Rules.TheVariants.{Stream}
use Rattle.stepping.proofs.Places.{ValueIn}
use Rattle.stepping.proofs.Soundness.{steps-sound}
use Rattle.values.specs.Scalars.{is_container, body_rules, opened, Scalar, decimal, timestamp, value_in, step_in, read_scalar}
use Rattle.values.specs.Scalars.{bool_of, positive_of, negative_of, float_of, symbol_of, string_of, typed_of, scalar_of}
use Rattle.bodies.specs.Decimal.{decimal as split_decimal}
use Rattle.timestamps.specs.Timestamp.{timestamp as read_stamp}
use Rattle.walking.specs.Walk.{limits_out}
use Rattle.walking.proofs.Depths.{in_limit}
use Rattle.runs.specs.Reached.{ValueOf, a_value, a_field, Part, the_stream, inner, EntryAt, next_annotation, AnnotationRun, none as no_more, call as one_more}
use Rattle.runs.proofs.Nest as nest
use Rattle.runs.proofs.Standing.{Standing, order, one, item_stands}
use Rattle.runs.proofs.ValueLocality.{value_stands, Afresh, afresh}
use Rattle.checking.specs.Counts.{markers, pads, place_of, none as nothing, counting}
use Rattle.checking.specs.Reading.{Done, done, as_done, on_id, read_ids, read_body, read_content, content_next, read_item}
use Rattle.checking.specs.Check.{least_room, inside_of, value_check, on_answer, part_check, whole_check}
use Rattle.checking.specs.Private.Whole.{full}
use Rattle.checking.specs.Unrefused.{Given, ByRules, Reached, Baking}
use Rattle.checking.proofs.Places.{Lies, lies_earlier, found_behind, NoEnd, no_end}
use Rattle.checking.proofs.Holding.{inside_done}
use Rattle.checking.proofs.Ids.{NextIn, annotation_each, ids_next}
use Rattle.checking.proofs.Unrolled.{unrolled, whole_in}

-- an end is the part's
stands_end : {limit : ℕ} {rules : Rules} {s : List ℕ} {hi z p : ℕ} {o : Outcome Item} → Stands limit rules s hi z o → o ≡ gives (finish p) → p ≡ hi
stands_end (the_end q) e = cc
stands_end {p = p} (the_item {i = x} t w) e = let q : x ≡ finish p = cc in absurd (subst NoEnd q (no_end t))
stands_end (refused_there a b c) e = absurd (let z : ◌≡◌ {A = ℕ} 0 1 = cc in omega arith)
stands_end (no_part q) e = absurd (let z : ◌≡◌ {A = ℕ} 0 1 = cc in omega arith)
stands_end (no_limit q) e = absurd (let z : ◌≡◌ {A = ℕ} 0 1 = cc in omega arith)

module _ (limit : ℕ) (s : List ℕ) (ranged : out_of_range limit ≡ false) where
  -- from `at` on the part's check gives counts
  record Good (rules : Rules) (hi at : ℕ) : Type 0 where
    order : at ≤ hi
    within : hi ≤ length s
    room : ℕ
    before : List ℕ
    after_all : List ℕ
    checked : full limit s rules room hi at before ≡ gives after_all

  -- a value that was read, and whose inside is good
  record GoodValue (v : Spans) : Type 0 where
    read : read_item s v ≡ gives done
    inside : is_container v ≡ true → Good (body_rules v) v.end v.body

  abbrev GoodAnswer : Rules → ℕ → Outcome Item → Type 0
  GoodAnswer rules hi (gives (finish p)) = Unit {0}
  GoodAnswer rules hi (gives (marker a x y e)) = Good rules hi e
  GoodAnswer rules hi (gives (value v)) = GoodValue v × Good rules hi v.end
  GoodAnswer rules hi (gives (field id a v)) = GoodValue v × Good rules hi v.end
  GoodAnswer rules hi (refuses n p) = ⊥

  good_end : (rules : Rules) (hi : ℕ) → hi ≤ length s → Good rules hi hi
  unfolding full part_check
  good_end rules hi m =
      record { order = omega arith; within = m; room = 0; before = nothing; after_all = nothing; checked = let z : hi - hi ≡ 0 = omega arith in rw z }

  module _ (rules : Rules) (room hi at : ℕ) (m : hi ≤ length s) where
    entered : (v : Spans) (c c' : List ℕ) → ValueIn at hi v → is_container v ≡ true → pick (ltb room least_room) (refuses 37 v.descriptor) (full limit s (body_rules v) (room - 1) v.end v.body (counting (place_of v) 1 c)) ≡ gives c' → Good (body_rules v) v.end v.body
    entered v c c' i h q =
        by_case (ltb room least_room)
        (λ e. let r : refuses 37 v.descriptor ≡ gives c' = rw e at q in absurd (let z : ◌≡◌ {A = ℕ} 0 1 = cc in omega arith))
        (λ e. record { order = i.ended; within = omega (arith, i.within); room = room - 1; before = counting (place_of v) 1 c; after_all = c'; checked = rw e at q })

    done-read : (v : Spans) (d : Done) → read_item s v ≡ gives d → read_item s v ≡ gives done
    done-read v done e = e

    value_good : (v : Spans) (c c' : List ℕ) → ValueIn at hi v → and_then (value_check s (full limit s) room v c) (full limit s rules room hi v.end) ≡ gives c' → GoodValue v × Good rules hi v.end
    unfolding value_check
    value_good v c c' i h =
        let p = then_gives (value_check s (full limit s) room v c) (full limit s rules room hi v.end) h in
        let q = then_gives (read_item s v) (inside_of (full limit s) room v c) p.1 in
        let r : inside_of (full limit s) room v c done ≡ gives p.0 = inside_done (full limit s) room v c q.0 q.2 in
        (record { read = done-read v q.0 q.1; inside = λ e. entered v c p.0 i e (rw e at r) }, record { order = i.within; within = m; room = room; before = p.0; after_all = c'; checked = p.2 })

    answer_good : (c c' : List ℕ) (o : Outcome Item) → ((x : Item) → o ≡ gives x → Lies at hi x) → on_answer s (full limit s) (full limit s rules room hi) room c o ≡ gives c' → GoodAnswer rules hi o
    answer_good c c' (gives (finish p)) l h = tt
    answer_good c c' (gives (marker a x y e)) l h =
        record { order = (l (marker a x y e) refl).1; within = m; room = room; before = counting markers 1 c; after_all = c'; checked = h }
    answer_good c c' (gives (value v)) l h = value_good v c c' (l (value v) refl) h
    answer_good c c' (gives (field id a v)) l h = value_good v c c' (l (field id a v) refl) h
    answer_good c c' (refuses n p) l h = absurd (let z : ◌≡◌ {A = ℕ} 0 1 = cc in omega arith)

  step_good : (rules : Rules) (hi at : ℕ) → Good rules hi at → GoodAnswer rules hi (found limit rules s (cursor at hi)).answer
  step_good rules hi at g =
      let f = found limit rules s (cursor at hi) in
      let b = found_behind limit rules s hi at g.order in
      answer_good rules g.room hi at g.within (counting pads (length f.pads) g.before) g.after_all f.answer (λ x e. lies_earlier at (at + length f.pads) hi x (omega arith) (b.lies x e))
      (sym (unrolled limit s ranged rules g.room hi at g.before g.order g.within) ∙ g.checked)

  -- an answer that is good is given, and leaves its caller at a good place
  good_given : (rules : Rules) (hi : ℕ) (o : Outcome Item) → GoodAnswer rules hi o → Given o
  good_given rules hi (gives x) g = (x, refl)
  good_given rules hi (refuses n p) g = absurd g

  good_next : (rules : Rules) (c : Cursor) (o : Outcome Item) → Good rules c.end c.at → ((p : ℕ) → o ≡ gives (finish p) → p ≡ c.end) → GoodAnswer rules c.end o → Good rules (after c o).end (after c o).at
  good_next rules c (gives (finish p)) g e a = subst (λ (z : ℕ). Good rules c.end z) (sym (e p refl)) (good_end rules c.end g.within)
  good_next rules c (gives (marker a x y e)) g q b = b
  good_next rules c (gives (value v)) g q b = b.1
  good_next rules c (gives (field id a v)) g q b = b.1
  good_next rules c (refuses n p) g q b = absurd b

  -- the value of an item, where it is one
  abbrev GoodItem : Item → Type 0
  GoodItem x = (v : Spans) → ValueOf x v → GoodValue v

  good_value : (v : Spans) → GoodValue v → (u : Spans) {x : Item} → ValueOf x u → x ≡ value v → GoodValue u
  good_value v g u a_value e = let q : u ≡ v = cc in subst GoodValue (sym q) g
  good_value v g u a_field e = absurd (let z : ◌≡◌ {A = ℕ} 0 1 = cc in omega arith)

  good_field : (id a : ℕ) (v : Spans) → GoodValue v → (u : Spans) {x : Item} → ValueOf x u → x ≡ field id a v → GoodValue u
  good_field id a v g u a_value e = absurd (let z : ◌≡◌ {A = ℕ} 0 1 = cc in omega arith)
  good_field id a v g u a_field e = let q : u ≡ v = cc in subst GoodValue (sym q) g

  no_marker : (a x y e : ℕ) (u : Spans) {i : Item} → ValueOf i u → i ≡ marker a x y e → GoodValue u
  no_marker a x y e u a_value q = absurd (let z : ◌≡◌ {A = ℕ} 0 1 = cc in omega arith)
  no_marker a x y e u a_field q = absurd (let z : ◌≡◌ {A = ℕ} 0 1 = cc in omega arith)

  good_items : (rules : Rules) (hi : ℕ) (o : Outcome Item) → GoodAnswer rules hi o → (rest : List Item) → ((x : Item) → Memᴰ x rest → GoodItem x) → (x : Item) → Memᴰ x (handed_out o rest) → GoodItem x
  good_items rules hi (gives (finish p)) g rest h x m u w = h x m u w
  good_items rules hi (gives (marker a y z e)) g rest h x m u w = ⊎_elim (λ q. no_marker a y z e u w q) (λ k. h x k u w) (Memᴰ.cases_cons m)
  good_items rules hi (gives (value v)) g rest h x m u w = ⊎_elim (λ q. good_value v g.0 u w q) (λ k. h x k u w) (Memᴰ.cases_cons m)
  good_items rules hi (gives (field id a v)) g rest h x m u w = ⊎_elim (λ q. good_field id a v g.0 u w q) (λ k. h x k u w) (Memᴰ.cases_cons m)
  good_items rules hi (refuses n p) g rest h x m u w = absurd g

  record RunGood (rs : List Stepped) : Type 0 where
    given : (r : Stepped) → Memᴰ r rs → Given r.answer
    values : (x : Item) → Memᴰ x (items rs) → GoodItem x

  run_good : (rules : Rules) {c : Cursor} {rs : List Stepped} → Run (Answers limit rules s) c rs → Good rules c.end c.at → RunGood rs
  unfolding step_of
  run_good rules none g = record { given = λ r m. absurd (Memᴰ.not-nil m); values = λ x m. absurd (Memᴰ.not-nil m) }
  run_good rules (call {c} {r} {rs} a k) g =
      let o = (found limit rules s c).answer in
      let e : r.answer ≡ o = ap (λ (x : Stepped). x.answer) a in
      let n : r.next ≡ after c o = ap (λ (x : Stepped). x.next) a in
      let ga : GoodAnswer rules c.end o = step_good rules c.end c.at g in
      let gr : GoodAnswer rules c.end r.answer = subst (GoodAnswer rules c.end) (sym e) ga in
      let ends : (p : ℕ) → o ≡ gives (finish p) → p ≡ c.end = λ p q. stands_end (steps-sound limit rules s c).2 q in
      let gn : Good rules r.next.end r.next.at = subst (λ (d : Cursor). Good rules d.end d.at) (sym n) (good_next rules c o g ends ga) in
      let ih = run_good rules k gn in
      record {
        given = λ x m. ⊎_elim (λ q. subst (λ (y : Stepped). Given y.answer) (sym q) (good_given rules c.end r.answer gr)) (ih.given x) (Memᴰ.cases_cons m);
        values = good_items rules c.end r.answer gr (items rs) ih.values;
      }

  module _ (whole : Good Stream (length s) 0) where
    part_good : {rules : Rules} {lo hi : ℕ} → Part (ByRules limit s) 0 (length s) rules lo hi → Good rules hi lo
    part_good the_stream = whole
    part_good (inner {rules} {i = i} {v = v} p run m u e) = ((run_good rules run (part_good p)).values i m v u).inside e

    -- a value that is reached: it was read, and stands where it is handed out
    record Stood (lo hi : ℕ) (v : Spans) : Type 0 where
      good : GoodValue v
      here : read_value limit s v.start hi ≡ gives v
      low : lo ≤ v.start
      within : hi ≤ length s

    stood : (lo hi : ℕ) (v : Spans) → Reached limit s lo hi v → Stood lo hi v
    stood lo hi v r =
        let h = r.handed in
        let g = part_good h.part in
        let it = item_stands limit s r.rules h.run h.among in
        let w = value_stands limit r.rules s it.place hi r.is it.is in
        record {
          good = (run_good r.rules h.run g).values r.item h.among v r.is;
          here = w.read;
          low = omega (arith, nest.ahead (Standing limit s) (order limit s) (one limit s) it.to, w.low);
          within = g.within;
        }

    -- its entries frame it afresh
    module _ (lo hi : ℕ) (v : Spans) (st : Stood lo hi v) (at : ℕ) (entry : EntryAt v at) where
      again : Afresh limit s hi at v
      again = afresh limit s hi at v st.here entry

      framed : value_in limit s lo hi at ≡ gives again.value
      unfolding value_in
      framed = rw (ranged, le-ltb at lo (omega (arith, st.low, again.low)), again.read)

      same_container : is_container v ≡ true → is_container again.value ≡ true
      unfolding is_container
      same_container e = rw again.byte e

      enters : is_container v ≡ true → Given (step_in limit s lo hi at)
      unfolding step_in opened
      enters e = (record { rules = body_rules again.value; body = again.value.body; end = again.value.end }, rw (framed, same_container e))

      same_scalar : scalar_of s again.value ≡ scalar_of s v
      unfolding scalar_of typed_of bool_of positive_of negative_of float_of symbol_of string_of
      same_scalar = rw (again.byte, again.descriptor, again.body, again.end)

      reads : read_scalar limit s lo hi at ≡ scalar_of s v
      unfolding read_scalar
      reads = rw framed same_scalar

      -- what was read of it
      content : read_content s v ≡ gives done
      unfolding read_item
      content = let q = then_gives (read_ids s v.annotations v.descriptor) (content_next s v) st.good.read in go q.0 q.2
        where
          go : (d : Done) → content_next s v d ≡ gives done → read_content s v ≡ gives done
          go done h = h

      scalar_read : (x : Scalar) × (scalar_of s v ≡ gives x) × (read_body s v.descriptor x ≡ gives done)
      unfolding read_content
      scalar_read = then_gives (scalar_of s v) (read_body s v.descriptor) content

      given_scalar : Given (read_scalar limit s lo hi at)
      given_scalar = (scalar_read.0, reads ∙ scalar_read.1)

      body-read : (x : Scalar) → read_scalar limit s lo hi at ≡ gives x → read_body s v.descriptor x ≡ gives done
      body-read x e =
          let q : scalar_read.0 ≡ x = let r : gives scalar_read.0 ≡ gives x = sym (reads ∙ scalar_read.1) ∙ e in cc in
          subst (λ (y : Scalar). read_body s v.descriptor y ≡ gives done) q scalar_read.2

      split : (a b : ℕ) → read_scalar limit s lo hi at ≡ gives (decimal a b) → Given (split_decimal s a b)
      split a b e = let q = then_gives (split_decimal s a b) as_done (body-read (decimal a b) e) in (q.0, q.1)

      stamped : (a b : ℕ) → read_scalar limit s lo hi at ≡ gives (timestamp a b) → Given (read_stamp v.descriptor s a b)
      stamped a b e = let q = then_gives (read_stamp v.descriptor s a b) as_done (body-read (timestamp a b) e) in (q.0, q.1)

-- ---- annotation steps

ids_read : (s : List ℕ) (v : Spans) → read_item s v ≡ gives done → read_ids s v.annotations v.descriptor ≡ gives done
unfolding read_item
ids_read s v h = let q = then_gives (read_ids s v.annotations v.descriptor) (content_next s v) h in go q.0 q.1
  where
    go : (d : Done) → read_ids s v.annotations v.descriptor ≡ gives d → read_ids s v.annotations v.descriptor ≡ gives done
    go done e = e

module _ (s : List ℕ) (end : ℕ) (m : end ≤ length s) where
  -- at the end a step says so, and elsewhere it gives an ID behind which the others are read
  record GoodId (at : ℕ) : Type 0 where
    order : at ≤ end
    read : read_ids s at end ≡ gives done

  next_id : (at : ℕ) (x : Annotated) → GoodId at → NextIn s at end x → on_id (λ n. read_ids s n end) x ≡ gives done → GoodId (next_annotation at (gives x))
  next_id at (ident id n) g p h = record { order = p.1; read = h }
  next_id at finished g p h = g

  at-end : (at : ℕ) → at ≡ end → read_annotation s at end ≡ gives finished
  unfolding read_annotation
  at-end at e = rw e (within_part s end end (omega arith) m ∙ rw (eq-eqb end end refl))

  id_given : (at : ℕ) → GoodId at → (x : Annotated) × (read_annotation s at end ≡ gives x) × GoodId (next_annotation at (gives x))
  id_given at g =
      by_case (ltb at end)
      (λ t.
      let q = then_gives (read_annotation s at end) (on_id (λ n. read_ids s n end)) (sym (ids_next s at end (ltb-true at end t)) ∙ g.read) in
      (q.0, q.1, next_id at q.0 g (each_of (annotation_each s at end) q.1) q.2))
      (λ t.
      let e : at ≡ end = omega (arith, ltb-false at end t, g.order) in
      (finished, at-end at e, g))

  ids_given : {at : ℕ} {rs : List (Outcome Annotated)} → AnnotationRun (λ a r. r ≡ read_annotation s a end) at rs → GoodId at → (r : Outcome Annotated) → Memᴰ r rs → Given r
  ids_given no_more g r k = absurd (Memᴰ.not-nil k)
  ids_given (one_more {at} {r = o} e run) g r k =
      let q = id_given at g in
      let h : o ≡ gives q.0 = e ∙ q.1 in
      ⊎_elim (λ p. (q.0, p ∙ h)) (ids_given run (subst (λ (y : Outcome Annotated). GoodId (next_annotation at y)) (sym h) q.2) r) (Memᴰ.cases_cons k)

pub baking : Baking
unfolding whole_check
baking limit deepest s c h =
    let q = refuse_gives (limits_out limit deepest) 68 0 h in
    let ranged = in_limit limit deepest q.0 in
    let whole : Good limit s ranged Stream (length s) 0 = record { order = omega arith; within = omega arith; room = deepest; before = nothing; after_all = c; checked = whole_in limit deepest s q.0 ∙ h } in
    record {
      steps = λ rules lo hi p rs run. (run_good limit s ranged rules run (part_good limit s ranged whole p)).given;
      enterings = λ lo hi v r e at entry. enters limit s ranged whole lo hi v (stood limit s ranged whole lo hi v r) at entry e;
      annotations = λ lo hi v r rs run.
          let st = stood limit s ranged whole lo hi v r in
          let o = each_of (read_value_each limit s v.start hi) st.here in
          ids_given s v.descriptor (omega (arith, st.within, o.bodied, o.ended, o.within)) run
          (record { order = o.described; read = ids_read s v st.good.read });
      readings = λ lo hi v r at entry. given_scalar limit s ranged whole lo hi v (stood limit s ranged whole lo hi v r) at entry;
      decimals = λ lo hi v r at entry. split limit s ranged whole lo hi v (stood limit s ranged whole lo hi v r) at entry;
      timestamps = λ lo hi v r at entry. stamped limit s ranged whole lo hi v (stood limit s ranged whole lo hi v r) at entry;
    }
