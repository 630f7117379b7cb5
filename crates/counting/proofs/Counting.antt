-- A step's counts: one more behind each pad, and one name where anything else stands.
-- Assumes nothing.
use Prim.Native.Nat.{ℕ, suc, ◌+◌, ◌≤◌, ◌<◌}
use native.Mathlib.Omega.{arith}
use mathlib.Core.Path.{◌≡◌, refl, ◌∙◌, sym, ap}
use mathlib.Core.Bool.{true, false}
use mathlib.Core.List.{List}
use lib.ListN.{length}
use Rattle.numbers.specs.Outcome.{Outcome, gives, refuses, and_then, outside_of}
use Rattle.numbers.proofs.Outcomes.{inside}
use Rattle.framing.specs.Limits.{out_of_range}
use Rattle.stepping.specs.Items.{Item, finish, Pad}
use Rattle.stepping.specs.Answers.{skip, tile_at, Found, passing, found}
use Rattle.stepping.specs.Runs.{cursor}
use Rattle.stepping.specs.Private.Tiles.{handed}
use Rattle.stepping.specs.declared.cursor.Cursor.{Cursor}
use Rattle.stepping.specs.declared.cursor.Rules.{Rules}
use Rattle.stepping.proofs.Places.{ItemIn, a_marker, a_value, a_field, pad_ends, item_in}
use Rattle.counting.specs.Counted.{Counted, unbegun, one_more, counted_by, counted}
use Rattle.counting.proofs.Finding.{found_unranged, found_outside, found_end, found_pad, found_stop}

-- n pads more, with their names
abbrev pub adding : ℕ → Counted → Counted
adding n c = record { answer = c.answer; pads = n + c.pads; names = n + c.names }

pub adding_none : (c : Counted) → adding 0 c ≡ c
adding_none c =
    let p : 0 + c.pads ≡ c.pads = omega arith in
    let q : 0 + c.names ≡ c.names = omega arith in
    rw (p, q)

pub adding_added : {m : ℕ} (n k : ℕ) (c : Counted) → n + k ≡ m → adding n (adding k c) ≡ adding m c
adding_added {m} n k c e =
    let p : n + (k + c.pads) ≡ m + c.pads = omega arith in
    let q : n + (k + c.names) ≡ m + c.names = omega arith in
    rw (p, q)

-- the counts of a step in a part
abbrev pub counted_inside : Found → Counted
counted_inside f = counted_by false f

-- one pad more
passing_counted : (p : Pad) (f : Found) → counted_inside (passing p f) ≡ adding 1 (counted_inside f)
passing_counted p f =
    let q : suc (length f.pads) ≡ 1 + length f.pads = omega arith in
    let r : 1 + length f.pads + one_more f.answer ≡ 1 + (length f.pads + one_more f.answer) = omega arith in
    rw (q, r)

-- an item of a part is no end
item_begun : {at hi : ℕ} {i : Item} → ItemIn at hi i → one_more (gives i) ≡ 1
item_begun (a_marker p q) = refl
item_begun (a_value v) = refl
item_begun (a_field v) = refl

-- what is no pad begins a name
pub begun : (limit : ℕ) (rules : Rules) (s : List ℕ) (at hi : ℕ) (o : Outcome Item) → and_then o handed ≡ tile_at limit rules s at hi → one_more o ≡ 1
begun limit rules s at hi (gives i) h = item_begun (item_in limit rules s (sym h))
begun limit rules s at hi (refuses n p) h = refl

module _ (limit : ℕ) (rules : Rules) (s : List ℕ) where
  pub counted_unranged : (c : Cursor) → out_of_range limit ≡ true → counted limit rules s c ≡ unbegun 68
  unfolding counted
  counted_unranged c g = rw (found_unranged limit rules s c g, g)

  pub counted_outside : (c : Cursor) → out_of_range limit ≡ false → outside_of s c.at c.end ≡ true → counted limit rules s c ≡ unbegun 50
  unfolding counted
  counted_outside c g o = rw (found_outside limit rules s c g o, g, o)

module _ (limit : ℕ) (rules : Rules) (s : List ℕ) (g : out_of_range limit ≡ false) where
  pub counted-inside : (at hi : ℕ) → at ≤ hi → hi ≤ length s → counted limit rules s (cursor at hi) ≡ counted_inside (found limit rules s (cursor at hi))
  unfolding counted
  counted-inside at hi l m = rw (g, inside s at hi l m)

  pub counted_end : (hi : ℕ) → hi ≤ length s → counted limit rules s (cursor hi hi) ≡ record { answer = gives (finish hi); pads = 0; names = 0 }
  counted_end hi m = counted-inside hi hi (omega arith) m ∙ ap counted_inside (found_end limit rules s g hi m)

  module _ (at hi : ℕ) (l : at < hi) (m : hi ≤ length s) where
    pub counted_pad : {b e : ℕ} → tile_at limit rules s at hi ≡ gives (skip b e) → counted limit rules s (cursor at hi) ≡ adding 1 (counted limit rules s (cursor e hi))
    counted_pad {b} {e} h =
        counted-inside at hi (omega arith) m
        ∙ ap counted_inside (found_pad limit rules s g at hi l m h)
        ∙ passing_counted (record { start = at; body = b; end = e }) (found limit rules s (cursor e hi))
        ∙ ap (adding 1) (sym (counted-inside e hi (pad_ends limit rules s h).2 m))

    pub counted_stop : (o : Outcome Item) → and_then o handed ≡ tile_at limit rules s at hi → counted limit rules s (cursor at hi) ≡ record { answer = o; pads = 0; names = 1 }
    counted_stop o h = counted-inside at hi (omega arith) m ∙ ap counted_inside (found_stop limit rules s g at hi l m o h) ∙ (rw (begun limit rules s at hi o h))

-- what a step answers behind n pads, with its counts: where a name is begun there, and at the part's end
pub behind_begun : (n names : ℕ) (o : Outcome Item) {c w : Counted} → c ≡ record { answer = o; pads = 0; names = 1 } → names ≡ n → adding n c ≡ w → record { answer = o; pads = n; names = names + 1 } ≡ w
behind_begun n names o e q h =
    let p : n + 0 ≡ n = omega arith in
    let r : adding n (record { answer = o; pads = 0; names = 1 }) ≡ record { answer = o; pads = n; names = n + 1 } = rw p in
    (rw q) ∙ sym r ∙ ap (adding n) (sym e) ∙ h

pub behind_ended : (n names : ℕ) (o : Outcome Item) {c w : Counted} → c ≡ record { answer = o; pads = 0; names = 0 } → names ≡ n → adding n c ≡ w → record { answer = o; pads = n; names = names } ≡ w
behind_ended n names o e q h =
    let p : n + 0 ≡ n = omega arith in
    let r : adding n (record { answer = o; pads = 0; names = 0 }) ≡ record { answer = o; pads = n; names = n } = rw p in
    (rw q) ∙ sym r ∙ ap (adding n) (sym e) ∙ h
