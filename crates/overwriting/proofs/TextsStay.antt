-- `texts-stay`: along the stream's steps, which are the same on both maps, each top-level value before the place is a table on both or on none, since where one
-- of the two readings isn't "no table" the value is none of those overwritten; so the same table rules, with the same bytes, or none.
-- Assumes nothing.
use Prim.Native.Nat.{ℕ, ◌-◌, ◌≤◌}
use native.Mathlib.Omega.{arith}
use borrow.Author.Tests.{ltb-false}
use mathlib.Core.Path.{◌≡◌, refl, ◌∙◌, sym, ap, subst}
use mathlib.Core.Bool.{Bool, true, false, not, true≢false}
use mathlib.Core.Logic.{◌⊎◌, inl, inr, ⊎_elim}
use mathlib.Core.List.{List, [], ◌∷◌, Memᴰ}
use lib.ListN.{length}
use lib.Dec.{ltb, eqb}
use Rattle.numbers.specs.Outcome.{Outcome, gives, refuses, pick}
use Rattle.numbers.specs.Bytes.{Same}
use Rattle.numbers.proofs.Outcomes.{Each, given, refused, each_refuse, each_within, each_then, each_pick, each_of, each_map, by_test, refuse_same, then_same, pick_same}
use Rattle.numbers.proofs.Parts.{part_same}
use Rattle.numbers.proofs.Locality.{within_local, looked_high}
use Rattle.framing.specs.Limits.{out_of_range}
use Rattle.framing.specs.Spans.{Spans}
use Rattle.framing.proofs.Locality.{annotation_local}
use Rattle.stepping.specs.Items.{Item, finish, marker, value, field, item_end}
use Rattle.stepping.specs.Answers.{Found, after, Stepped, step_of, answer_at}
use Rattle.stepping.specs.Leaving.{is_last}
use Rattle.stepping.specs.Runs.{cursor, Answers, Run, none, call, handed_out, items}
use Rattle.stepping.specs.declared.cursor.Cursor.{Cursor}
use Rattle.stepping.specs.declared.cursor.Rules.TheVariants.{Stream}
use Rattle.symbols.specs.SystemTexts.{system_bytes, same_bytes}
use Rattle.symbols.specs.Turns.{Turn}
use Rattle.symbols.specs.Text.{is_table, Ruling, system_alone, table, tabled, on_stream, ruling_at, Own, no_list, listed, own_list, Text, unknown, own, system, system_text, own_text, text_in, symbols_at, text_of, text_bytes, text_part}
use Rattle.symbols.specs.TextTheorems.{TextTold, in_map}
use Rattle.symbols.proofs.Told.{text_each}
use Rattle.runs.specs.Reached.{a_value, the_stream, Handed, Agree, ByRules}
use Rattle.runs.specs.Overwritten.{Site, value_site, Sites, Over, OutsideAll, NoneOf}
use Rattle.runs.proofs.Nest as nest
use Rattle.runs.proofs.Nest.{stay}
use Rattle.runs.proofs.Standing.{Standing, To, called}
use Rattle.runs.proofs.Overwriting.{found_same, stream_out, hands, span, value_out, site_is, annotations_kept, body_kept}
use Rattle.overwriting.specs.TextsStay.{TopLevel, Tells, in_table, unreadable, Quiet, TextsStay}
use Rattle.overwriting.proofs.SameSteps.{Alike, both_over, both_further, alike_pick, all_same}
use Rattle.overwriting.proofs.SameBytes.{ListIn, without, listed_in, TextIn, nowhere, of_system, own_in, list_same, text_same}

-- what rules, a list and a text, with the same bytes on both maps where there are any
data RulingKept (s s' : List ℕ) : Ruling → Type 0 where
  no_table : RulingKept s s' system_alone
  table_kept : {b e : ℕ} → Same s s' b e → RulingKept s s' (table b e)

data OwnKept (s s' : List ℕ) : Own → Type 0 where
  none_kept : OwnKept s s' no_list
  list_kept : {b e : ℕ} → Same s s' b e → OwnKept s s' (listed b e)

data TextKept (s s' : List ℕ) : Text → Type 0 where
  not_own : TextKept s s' unknown
  in_system : {x y : ℕ} → TextKept s s' (system x y)
  own_kept : {x y : ℕ} → Same s s' x y → TextKept s s' (own x y)

module _ (limit : ℕ) (s s' : List ℕ) (lo₀ hi₀ : ℕ) (Chosen : Site → Type 0) (sites : Sites limit s (ByRules limit s).step lo₀ hi₀ Chosen) (agree : Agree s s' (Over Chosen)) where
  out : OutsideAll Chosen lo₀ hi₀
  out = stream_out limit s s' lo₀ hi₀ Chosen sites agree

  -- ---- along the stream

  -- `at` is where a run on the stream of s leads: what runs from there hand out, runs from its start hand out
  record Come (at : ℕ) : Type 0 where
    pub to : To limit s Stream hi₀ lo₀ at
    pub handed : (rs : List Stepped) (i : Item) → Run (Answers limit Stream s) (cursor at hi₀) rs → Memᴰ i (items rs) → Handed (ByRules limit s).step lo₀ hi₀ Stream lo₀ hi₀ i

  at_start : Come lo₀
  at_start = record { to = stay; handed = λ rs i run m. record { part = the_stream; calls = rs; run = run; among = m } }

  answers : (at : ℕ) → Come at → answer_at limit Stream s at hi₀ ≡ answer_at limit Stream s' at hi₀
  unfolding step_of
  answers at c =
      ap (λ (f : Found). f.answer) (found_same limit s s' lo₀ hi₀ Chosen sites agree the_stream out (cursor at hi₀) refl c.to)

  out_of : (i : Item) → is_last (gives i) ≡ false → (is : List Item) → handed_out (gives i) is ≡ i ∷ is
  out_of (finish p) h is = absurd (true≢false h)
  out_of (marker a x y e) h is = refl
  out_of (value v) h is = refl
  out_of (field id a v) h is = refl

  module _ {at : ℕ} (c : Come at) {i : Item} (live : is_last (gives i) ≡ false) (q : answer_at limit Stream s at hi₀ ≡ gives i) where
    step : Stepped
    step = step_of limit Stream s (cursor at hi₀)

    next : step.next ≡ cursor (item_end i) hi₀
    unfolding step step_of
    next = ap (after (cursor at hi₀)) q

    out_now : (is : List Item) → handed_out step.answer is ≡ i ∷ is
    unfolding step
    out_now is = ap (λ (o : Outcome Item). handed_out o is) q ∙ out_of i live is

    -- the item is handed out
    this : Handed (ByRules limit s).step lo₀ hi₀ Stream lo₀ hi₀ i
    unfolding step
    this = c.handed (step ∷ []) i (call refl none) (subst (Memᴰ i) (sym (out_now [])) (Memᴰ.head refl))

    -- and a run leads to its end
    onward : Come (item_end i)
    unfolding step
    onward =
        record {
          to =
              nest.join (Standing limit s) c.to
              (subst (λ (n : Cursor). To limit s Stream hi₀ at n.at) next (called limit s Stream (cursor at hi₀) step refl).to);
          handed = λ rs j run m.
              c.handed (step ∷ rs) j (call refl (subst (λ (n : Cursor). Run (Answers limit Stream s) n rs) (sym next) run))
              (subst (Memᴰ j) (sym (out_now (items rs))) (Memᴰ.tail m));
        }

  -- ---- a top-level value before the place

  module _ (place : ℕ) (quiet : Quiet limit s s' lo₀ hi₀ Chosen place) (v : Spans) (h : TopLevel limit s lo₀ hi₀ v) (before : v.end ≤ place) where
    h' : TopLevel limit s' lo₀ hi₀ v
    h' = hands limit s s' lo₀ hi₀ Chosen sites agree out h

    -- one of those overwritten with its body is it
    it : (x : Site) → Chosen x → (v.body ≡ x.body) × (v.end ≡ x.end) → x ≡ value_site (value v) v
    it x c w = site_is limit s s' lo₀ hi₀ Chosen sites agree h a_value out x c w.0 w.1

    -- where one of the two maps has something there to tell, it is none of them
    told : (t : List ℕ) → TopLevel limit t lo₀ hi₀ v → ((x : Site) → Chosen x → x.end ≤ place → Tells limit t lo₀ hi₀ x → ⊥) → (o : Outcome Bool) → is_table t v ≡ o → (o ≡ gives false) ⊎ NoneOf Chosen v
    told t k mute (gives true) q =
        inr (λ x c w.
        let e = it x c w in
        let a = ap (λ (y : Site). y.start) e in
        mute x c (omega arith) (in_table k q (omega arith) (omega arith)))
    told t k mute (gives false) q = inl refl
    told t k mute (refuses n p) q = inr (λ x c w. mute x c (omega arith) (unreadable k q (it x c w)))

    kept_table : Same s s' v.annotations v.descriptor → is_table s v ≡ is_table s' v
    unfolding is_table
    kept_table same =
        rw (annotation_local s s' agree.long v.annotations v.descriptor (λ i m n. same i m (omega (arith, looked_high s v.annotations v.descriptor))))

    other : NoneOf Chosen v → is_table s v ≡ is_table s' v
    other free = kept_table (annotations_kept limit s s' lo₀ hi₀ Chosen sites agree h a_value (value_out limit s s' lo₀ hi₀ Chosen sites agree h a_value out) free)

    table_same : is_table s v ≡ is_table s' v
    table_same =
        ⊎_elim (λ e. ⊎_elim (λ e'. e ∙ sym e') other (told s' h' (λ x c l t. quiet x c (omega arith) (inr t)) (is_table s' v) refl)) other
        (told s h (λ x c l t. quiet x c (omega arith) (inl t)) (is_table s v) refl)

    -- a table has none of them inside, so that its bytes stayed
    bytes_kept : is_table s v ≡ gives true → Same s s' v.body v.end
    bytes_kept q =
        body_kept limit s s' lo₀ hi₀ Chosen sites agree h a_value (value_out limit s s' lo₀ hi₀ Chosen sites agree h a_value out)
        (⊎_elim (λ e. absurd (let z : true ≡ false = cc in true≢false z)) (λ free. free) (told s h (λ x c l t. quiet x c (omega arith) (inl t)) (gives true) q)) (λ x c _ l m.
        let f = (span limit s s' lo₀ hi₀ Chosen sites agree h a_value).1 in
        quiet x c (omega arith) (inl (in_table h q (omega (arith, f.begins)) m)))

  -- ---- what rules

  module _ (place : ℕ) (quiet : Quiet limit s s' lo₀ hi₀ Chosen place) where
    abbrev Both : Turn Ruling Ruling → Turn Ruling Ruling → Type 0
    Both = Alike Come (RulingKept s s') (RulingKept s s')

    picked : (v : Spans) → TopLevel limit s lo₀ hi₀ v → v.end ≤ place → {r : Ruling} → RulingKept s s' r → (t : Bool) → is_table s v ≡ gives t → RulingKept s s' (pick t (table v.body v.end) r)
    picked v h l k true q = table_kept (bytes_kept place quiet v h l q)
    picked v h l k false q = k

    on_value : {r : Ruling} → RulingKept s s' r → (v : Spans) → TopLevel limit s lo₀ hi₀ v → Come v.end → v.end ≤ place → (o : Outcome Bool) → is_table s v ≡ o → Both (tabled v r o) (tabled v r o)
    on_value k v h c l (gives t) q = both_further c (picked v h l k t q)
    on_value k v h c l (refuses n p) q = both_over refused

    on_item : (at : ℕ) (r : Ruling) (i : Item) → Come at → RulingKept s s' r → answer_at limit Stream s at hi₀ ≡ gives i → Both (on_stream s place r i) (on_stream s' place r i)
    unfolding on_stream
    on_item at r (finish p) c k q = alike_pick (eqb p place) (λ _. both_over (given k)) (λ _. both_over refused)
    on_item at r (marker a x y e) c k q =
        alike_pick (eqb a place) (λ _. both_over (given k)) (λ _.
        alike_pick (ltb place e) (λ _. both_over refused) (λ _. both_further (onward c refl q) no_table))
    on_item at r (value v) c k q =
        alike_pick (eqb v.start place) (λ _. both_over (given k)) (λ _.
        alike_pick (ltb place v.end) (λ _. both_over refused) (λ n.
        let l : v.end ≤ place = ltb-false place v.end n in
        rw (← table_same place quiet v (this c refl q) l) (on_value k v (this c refl q) (onward c refl q) l (is_table s v) refl)))
    on_item at r (field id a v) c k q = both_over refused

    ruling_same : (ruling_at limit s lo₀ hi₀ place ≡ ruling_at limit s' lo₀ hi₀ place) × Each (RulingKept s s') (ruling_at limit s lo₀ hi₀ place)
    unfolding ruling_at
    ruling_same =
        all_same limit Stream s s' hi₀ (on_stream s place) (on_stream s' place) Come (RulingKept s s') (RulingKept s s') answers on_item lo₀ system_alone at_start no_table

-- ---- its list, and a text of it

module _ (limit : ℕ) (s s' : List ℕ) (long : length s ≡ length s') where
  narrow : {b e x y : ℕ} → Same s s' b e → b ≤ x → y ≤ e → Same s s' x y
  narrow same m n i k l = same i (omega arith) (omega arith)

  list_in_kept : {b e : ℕ} → Same s s' b e → {l : Own} → ListIn b e l → OwnKept s s' l
  list_in_kept same without = none_kept
  list_in_kept same (listed_in m n) = list_kept (narrow same m n)

  text_in_kept : {b e : ℕ} → Same s s' b e → {t : Text} → TextIn b e t → TextKept s s' t
  text_in_kept same nowhere = not_own
  text_in_kept same of_system = in_system
  text_in_kept same (own_in m n) = own_kept (narrow same m n)

  lists : {r : Ruling} → RulingKept s s' r → (own_list limit s r ≡ own_list limit s' r) × Each (OwnKept s s') (own_list limit s r)
  unfolding own_list
  lists no_table = (refl, given none_kept)
  lists (table_kept {b} {e} same) = let w = list_same limit s s' long b e same in (w.0, each_map w.1 (λ l k. list_in_kept same k))

  system_kept : (id : ℕ) → TextKept s s' (system_text id)
  unfolding system_text
  system_kept id = by_test (TextKept s s') (eqb id 0) (λ _. not_own) (λ _. in_system)

  texts : (id : ℕ) {l : Own} → OwnKept s s' l → (text_in limit s id l ≡ text_in limit s' id l) × Each (TextKept s s') (text_in limit s id l)
  unfolding text_in own_text
  texts id none_kept = (refl, each_pick (ltb id 10) (λ _. given (system_kept id)) (λ _. given not_own))
  texts id (list_kept {b} {e} same) =
      let w = text_same limit s s' long b e same (id - 10) in
      (pick_same (ltb id 10) (λ _. refl) (λ _. w.0), each_pick (ltb id 10) (λ _. given (system_kept id)) (λ _. each_map w.1 (λ t k. text_in_kept same k)))

  -- the bytes of a text
  own_same : {x y : ℕ} → TextKept s s' (own x y) → Same s s' x y
  own_same (own_kept same) = same

  own_end : {lent : List ℕ} {id x y : ℕ} → TextTold s lent id (own x y) → y ≤ length s
  own_end (in_map _ _ n _) = n

  text-bytes : (lent : List ℕ) (id : ℕ) (t : Text) → TextKept s s' t → TextTold s lent id t → text_bytes s lent (gives t) ≡ text_bytes s' lent (gives t)
  text-bytes lent id unknown k m = refl
  text-bytes lent id (own x y) k m = part_same s s' x y long (own_end m) (own_same k)
  text-bytes lent id (system x y) k m = refl

  outcome_bytes : (lent : List ℕ) (id : ℕ) (o : Outcome Text) → Each (TextKept s s') o → Each (TextTold s lent id) o → text_bytes s lent o ≡ text_bytes s' lent o
  outcome_bytes lent id (gives t) k m = text-bytes lent id t (each_of k refl) (each_of m refl)
  outcome_bytes lent id (refuses n p) k m = refl

module _ (limit : ℕ) (s s' lent : List ℕ) (lo₀ hi₀ : ℕ) (Chosen : Site → Type 0) (sites : Sites limit s (ByRules limit s).step lo₀ hi₀ Chosen) (agree : Agree s s' (Over Chosen)) (place : ℕ) (quiet : Quiet limit s s' lo₀ hi₀ Chosen place) where
  symbols_same : (symbols_at limit s lent lo₀ hi₀ place ≡ symbols_at limit s' lent lo₀ hi₀ place) × Each (OwnKept s s') (symbols_at limit s lent lo₀ hi₀ place)
  unfolding symbols_at
  symbols_same =
      let long : length s ≡ length s' = agree.long in
      let w = ruling_same limit s s' lo₀ hi₀ Chosen sites agree place quiet in (
        refuse_same (not (same_bytes lent system_bytes)) 66 0 (λ _.
            refuse_same (out_of_range limit) 68 0 (λ _.
            within_local s s' lo₀ place long (λ _ _. within_local s s' place hi₀ long (λ _ _. then_same w.1 w.0 (λ r k. (lists limit s s' long k).0))))),
        each_refuse (not (same_bytes lent system_bytes)) 66 0 (λ _.
            each_refuse (out_of_range limit) 68 0 (λ _.
            each_within s lo₀ place (λ _ _. each_within s place hi₀ (λ _ _. each_then w.1 (λ r k. (lists limit s s' long k).1))))),
      )

  text_of_same : (id : ℕ) → (text_of limit s lent lo₀ hi₀ place id ≡ text_of limit s' lent lo₀ hi₀ place id) × Each (TextKept s s') (text_of limit s lent lo₀ hi₀ place id)
  unfolding text_of
  text_of_same id =
      let w = symbols_same in
      (then_same w.1 w.0 (λ l k. (texts limit s s' agree.long id k).0), each_then w.1 (λ l k. (texts limit s s' agree.long id k).1))

  bytes_same : (id : ℕ) → text_part limit s lent lo₀ hi₀ place id ≡ text_part limit s' lent lo₀ hi₀ place id
  unfolding text_part
  bytes_same id =
      let w = text_of_same id in
      outcome_bytes limit s s' agree.long lent id (text_of limit s lent lo₀ hi₀ place id) w.1 (text_each limit s lent lo₀ hi₀ place id)
      ∙ ap (text_bytes s' lent) w.0

pub texts-stay : TextsStay
texts-stay limit s s' lent lo₀ hi₀ Chosen sites agree place quiet =
    record {
      list = (symbols_same limit s s' lent lo₀ hi₀ Chosen sites agree place quiet).0;
      text = λ id. (text_of_same limit s s' lent lo₀ hi₀ Chosen sites agree place quiet id).0;
      bytes = bytes_same limit s s' lent lo₀ hi₀ Chosen sites agree place quiet;
    }
