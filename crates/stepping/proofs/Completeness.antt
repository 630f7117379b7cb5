-- Pads of the document within the limits, one after the other, and an item or the part's end behind them are what a step finds: each is what the framing reads
-- there, and a step's derivation is made of these.
-- Assumes nothing.
use Prim.Native.Nat.{ℕ, ◌+◌, ◌/◌, ◌%◌, ◌≤◌, ◌<◌}
use native.Mathlib.Omega.{arith}
use borrow.Author.Tests.{ne_eqb}
use mathlib.Core.Path.{◌≡◌, refl, ◌∙◌, sym, ap, subst}
use mathlib.Core.Bool.{false}
use mathlib.Core.List.{List}
use lib.ListN.{length, get_or}
use lib.Dec.{eqb}
use Rattle.numbers.specs.Format.{NumberAt}
use Rattle.numbers.specs.Outcome.{gives}
use Rattle.numbers.specs.Answers.{unsigned}
use Rattle.numbers.proofs.Outcomes.{by_case}
use Rattle.numbers.proofs.Meaning.{var-uint-complete}
use Rattle.framing.specs.Limits.{out_of_range}
use Rattle.framing.specs.Spans.{Spans, Padding}
use Rattle.framing.specs.Format.{type_at, CodeLength, short, long, ValueType, typed, null_null, NopPadding, ValueBytes, plain, annotated}
use Rattle.framing.proofs.Completeness.{values-complete, pads-complete}
use Rattle.stepping.specs.Items.{Item, finish, Pad}
use Rattle.stepping.specs.Answers.{skip, hand, marker_at, framed_at, named_at, field_at, tile_at, Found, stop, limited_found, found}
use Rattle.stepping.specs.Format.{NameBytes, in_stream, in_sequence, in_fields, ItemAt, marker-at, value_in_stream, value_in_sequence, field-at}
use Rattle.stepping.specs.Meaning.{ItemWithin, Skips, arrived, passed, StepsComplete}
use Rattle.stepping.specs.declared.cursor.Cursor.{Cursor}
use Rattle.stepping.specs.declared.cursor.Rules.{Rules}
use Rattle.stepping.proofs.MarkersFound.{marker_complete}
use Rattle.stepping.proofs.PadSkipping.{Skipping, at-end, at_pad, at_item, of_skipping}

-- E0 is of type 14 and length code 0, so that neither a pad nor a value begins with it
of_type : (x n : ℕ) → x / 16 ≡ n → (n ≡ 14 → ⊥) → eqb x 224 ≡ false
of_type x n h d = ne_eqb x 224 (λ e. d (sym h ∙ ap (λ (y : ℕ). y / 16) e))

of_code : (x : ℕ) → 0 < x % 16 → eqb x 224 ≡ false
of_code x h = ne_eqb x 224 (λ e. let z : x % 16 ≡ 0 = ap (λ (y : ℕ). y % 16) e in omega arith)

no_wrapper : {type code : ℕ} → ValueType type code → type ≡ 14 → ⊥
no_wrapper (typed l h) e = omega arith
no_wrapper null_null e = omega arith

some_code : {s : List ℕ} {at end b code n : ℕ} → CodeLength s at end b code n → 0 < n → 0 < code
some_code (short h e) m = m
some_code (long f) m = omega arith

module _ (limit : ℕ) (s : List ℕ) (hi : ℕ) where
  value_begins : {a : ℕ} {v : Spans} → ValueBytes s a hi v → eqb (get_or s a 0) 224 ≡ false
  value_begins {a} (plain t) = of_type (get_or s a 0) (type_at s a) refl (no_wrapper t.type)
  value_begins {a} (annotated w) =
      of_code (get_or s a 0) (some_code w.field (omega (arith, w.all, w.count.begins, w.some, w.value.low, w.value.order, w.ends)))

  value_fits : {a : ℕ} {v : Spans} → ValueBytes s a hi v → (a < hi) × (hi ≤ length s)
  value_fits (plain t) = (omega (arith, t.low, t.order, t.fits), t.within)
  value_fits (annotated w) = (omega (arith, w.low, w.count.begins, w.count.ends), w.value.within)

  -- a field ID with something behind it
  id_read : (a n : ℕ) → NumberAt s a hi n → n ≤ a + 9 → n < hi → field_at limit s a hi ≡ named_at limit s a hi (unsigned s a n)
  unfolding field_at
  id_read a n id l h = rw (var-uint-complete s a hi n id l)

  pub pad_complete : {rules : Rules} {a n : ℕ} → NameBytes s hi rules a n → (q : Padding) → NopPadding s n hi q → n ≤ a + 9 → q.body ≤ n + 1 + 9 → tile_at limit rules s a hi ≡ gives (skip q.body q.end)
  unfolding tile_at framed_at named_at
  pad_complete (in_stream {a}) q b l m = rw (of_type (get_or s a 0) 0 b.type (λ e. omega arith), (pads-complete limit s a hi q b m).1)
  pad_complete (in_sequence {a}) q b l m = rw (pads-complete limit s a hi q b m).1
  pad_complete (in_fields {a} {n} id) q b l m =
      let h : n < hi = omega (arith, b.low, b.order, b.fits) in
      id_read a n id l h ∙ rw (ne_eqb n hi (λ e. omega arith), (pads-complete limit s n hi q b m).1)

  item_complete : {rules : Rules} {a : ℕ} {i : Item} (t : ItemAt s hi rules a i) → ItemWithin limit t → (a < hi) × (hi ≤ length s) × (tile_at limit rules s a hi ≡ gives (hand i))
  unfolding tile_at framed_at named_at marker_at
  item_complete (marker-at {a} e0 major minor ea fits within) l = (omega arith, within, marker_complete limit s a hi e0 major minor ea fits)
  item_complete (value_in_stream {a} {v} b) l =
      let f = value_fits b in
      (f.0, f.1, rw (value_begins b, (values-complete limit s a hi v b l).1))
  item_complete (value_in_sequence {a} {v} b) l = let f = value_fits b in (f.0, f.1, rw (values-complete limit s a hi v b l).1)
  item_complete (field-at {a} {n} {v} id b) l =
      let f = value_fits b in
      (omega (arith, id.begins), f.1, id_read a n id l.0 f.0 ∙ rw (ne_eqb n hi (λ e. omega arith), (values-complete limit s n hi v b l.1).1))

  -- the pads, in front of what stands behind them
  module _ (rules : Rules) where
    skipping : {a z : ℕ} {ps : List Pad} {i : Item} → Skips rules s hi a ps z → Skipping limit rules s hi z (stop (gives i)) → z ≤ hi → Skipping limit rules s hi a (record { pads = ps; answer = gives i }) × (a ≤ hi)
    skipping arrived w m = (w, m)
    skipping (passed {p} t l r) w m =
        let d = skipping r w m in
        let h : p.start < hi = omega (arith, named t.name, t.bytes.low, t.bytes.order, t.bytes.fits) in
        let q : tile_at limit rules s p.start hi ≡ gives (skip p.body p.end) = pad_complete t.name (record { body = p.body; end = p.end }) t.bytes l.0 l.1 in
        (at_pad {at = p.start} h q d.0, omega arith)
      where
        named : {r : Rules} {a n : ℕ} → NameBytes s hi r a n → a ≤ n
        named in_stream = omega arith
        named in_sequence = omega arith
        named (in_fields id) = omega (arith, id.begins)

-- what a derivation says, behind the test of the limit
limited_is : (limit : ℕ) (rules : Rules) (s : List ℕ) (c : Cursor) {f : Found} → c.at ≤ c.end → c.end ≤ length s → Skipping limit rules s c.end c.at f → found limit rules s c ≡ limited_found limit f
unfolding found
limited_is limit rules s c l m d =
    by_case (out_of_range limit) (λ g. rw g) (λ g. sym (of_skipping limit rules s c.end g l m d) ∙ rw g)

pub steps-complete : StepsComplete
steps-complete limit rules s c ps z k =
    record {
      item = λ i t l.
          let w = item_complete limit s c.end t l in
          let h : z ≤ c.end = omega (arith, w.0) in
          let d = skipping limit s c.end rules k (at_item w.0 w.2) h in
          limited_is limit rules s c d.1 w.1 d.0;
      end = λ e m.
          let w : Skipping limit rules s c.end z (stop (gives (finish c.end))) = subst (λ (x : ℕ). Skipping limit rules s c.end x (stop (gives (finish c.end)))) (sym e) at-end in
          let h : z ≤ c.end = omega arith in
          let d = skipping limit s c.end rules k w h in
          limited_is limit rules s c d.1 m d.0;
    }
