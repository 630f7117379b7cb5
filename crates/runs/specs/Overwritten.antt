-- The change request A.14, "Many overwritten bodies": any set of reached values and pads, none inside another, with what may be overwritten of them and what
-- stays then.
-- Assumes nothing.
use Rattle.std.specs.Prelude.{ℕ, ◌≡◌, length}
use mathlib.Core.List.{List, Memᴰ}
use Rattle.numbers.specs.Outcome.{Outcome}
use Rattle.numbers.specs.Bytes.{Same}
use Rattle.numbers.specs.Answers.{looked_to}
use Rattle.framing.specs.Spans.{Spans}
use Rattle.framing.specs.Answers.{Annotated}
use Rattle.stepping.specs.Items.{Item, Pad}
use Rattle.stepping.specs.Answers.{Stepped}
use Rattle.stepping.specs.Runs.{cursor, Run, items}
use Rattle.stepping.specs.declared.cursor.Cursor.{Cursor}
use Rattle.stepping.specs.declared.cursor.Rules.{Rules}
use Rattle.values.specs.Scalars.{Opened, Scalar}
use Rattle.runs.specs.Reached.{ValueOf, item_start, Part, Handed, pads_after, Iff, In, Outside, NotOwner, EntryAt, AnnotationRun, Entries, ByRules}
use Rattle.runs.specs.Reached.{EitherPart, HandedOutside, Calls}

-- where a value or a pad stands: its span start..end, with a field ID in a struct; its annotation bytes, from `annotations` to `descriptor`; its body, from
-- `body` to `end`
pub record Site : Type 0 where
  pub start : ℕ
  pub annotations : ℕ
  pub descriptor : ℕ
  pub body : ℕ
  pub end : ℕ

abbrev pub value_site : Item → Spans → Site
value_site i v =
    record { start = item_start i; annotations = v.annotations; descriptor = v.descriptor; body = v.body; end = v.end }

-- a pad has no annotation bytes
abbrev pub pad_site : Pad → Site
pad_site p = record { start = p.start; annotations = p.body; descriptor = p.body; body = p.body; end = p.end }

-- a pad that a call after a run on the reached part lo..hi skips, "also where the step then refuses or ends"
pub record Skipped {ℓ} (limit : ℕ) (s : List ℕ) (step : Rules → Cursor → Stepped → Type ℓ) (lo₀ hi₀ : ℕ) (rules : Rules) (lo hi : ℕ) (p : Pad) : Type ℓ where
  pub part : Part step lo₀ hi₀ rules lo hi
  pub calls : List Stepped
  pub run : Run (step rules) (cursor lo hi) calls
  pub among : Memᴰ p (pads_after limit rules s lo hi calls)

-- "reached values and pads"
pub data ReachedSite {ℓ} (limit : ℕ) (s : List ℕ) (step : Rules → Cursor → Stepped → Type ℓ) (lo₀ hi₀ : ℕ) : Site → Type ℓ where
  reached_value : {rules : Rules} {lo hi : ℕ} {i : Item} {v : Spans}
      → Handed step lo₀ hi₀ rules lo hi i → ValueOf i v → ReachedSite limit s step lo₀ hi₀ (value_site i v)
  reached_pad : {rules : Rules} {lo hi : ℕ} {p : Pad} → Skipped limit s step lo₀ hi₀ rules lo hi p → ReachedSite limit s step lo₀ hi₀ (pad_site p)

-- "any set of reached values and pads, none inside another": a predicate, so that the set may be finite or not
pub record Sites {ℓ} (limit : ℕ) (s : List ℕ) (step : Rules → Cursor → Stepped → Type ℓ) (lo₀ hi₀ : ℕ) (Chosen : Site → Type 0) : Type ℓ where
  pub reached : (x : Site) → Chosen x → ReachedSite limit s step lo₀ hi₀ x
  pub none_inside : (x y : Site) → Chosen x → Chosen y → Outside x.body x.end y.start y.end

-- a value or a pad of the reached part lo..hi
pub data OfPart (limit : ℕ) (s : List ℕ) (lo₀ hi₀ : ℕ) (rules : Rules) (lo hi : ℕ) : Site → Type 0 where
  its_value : {i : Item} {v : Spans}
      → Handed (ByRules limit s).step lo₀ hi₀ rules lo hi i → ValueOf i v → OfPart limit s lo₀ hi₀ rules lo hi (value_site i v)
  its_pad : {p : Pad} → Skipped limit s (ByRules limit s).step lo₀ hi₀ rules lo hi p → OfPart limit s lo₀ hi₀ rules lo hi (pad_site p)

-- "overwrite their bodies, and annotation bytes where there are any, lengths kept": the positions whose bytes may change
abbrev pub InBody : Site → ℕ → Type 0
InBody x i = In x.body x.end i

abbrev pub InAnnotations : Site → ℕ → Type 0
InAnnotations x i = In x.annotations x.descriptor i

pub data Over (Chosen : Site → Type 0) (i : ℕ) : Type 0 where
  in_body : {x : Site} → Chosen x → InBody x i → Over Chosen i
  in_annotations : {x : Site} → Chosen x → InAnnotations x i → Over Chosen i

-- "outside them": a span that neither is one of their bodies nor lies in one
abbrev pub OutsideAll : (Site → Type 0) → ℕ → ℕ → Type 0
OutsideAll Chosen a z = (x : Site) → Chosen x → Outside x.body x.end a z

-- a value that is none of them
abbrev pub NoneOf : (Site → Type 0) → Spans → Type 0
NoneOf Chosen v = (x : Site) → Chosen x → NotOwner x.body x.end v

-- Two maps E and E' with the stream lo₀..hi₀, and such a set.
module _ {ℓ} (E E' : Entries {ℓ}) (lo₀ hi₀ : ℕ) (Chosen : Site → Type 0) where
  abbrev pub ValueOutside : Rules → ℕ → ℕ → Spans → Type ℓ
  ValueOutside = HandedOutside E E' lo₀ hi₀ (OutsideAll Chosen)

  -- "each reached step and scalar reading outside them, stay the same": to step calls on a part outside them, with the pads that the next call skips; to
  -- stepping in, one of them included; to the scalar reading, with the bytes of its part, of a value that is none of them. "annotation IDs stay where their
  -- bytes did": the whole list where all the bytes of a value's annotations stayed, each ID whose own bytes stayed; and they all stayed of a value that is
  -- none of them. "Spans at all of them .. stay": in both maps a value of them is handed out by as many calls, and so is a pad of them skipped.
  pub record SameOutside : Type ℓ where
    pub steps : (rules : Rules) (lo hi : ℕ) → EitherPart E E' lo₀ hi₀ rules lo hi → OutsideAll Chosen lo hi
        → (rs rs' : List Stepped) → Calls E E' lo₀ hi₀ rules lo hi rs rs' → rs ≡ rs'
    pub pads : (rules : Rules) (lo hi : ℕ) → EitherPart E E' lo₀ hi₀ rules lo hi → OutsideAll Chosen lo hi
        → (rs rs' : List Stepped) → Calls E E' lo₀ hi₀ rules lo hi rs rs'
        → pads_after E.limit rules E.map lo hi rs ≡ pads_after E'.limit rules E'.map lo hi rs'
    pub annotations : (rules : Rules) (lo hi : ℕ) (v : Spans) → ValueOutside rules lo hi v → Same E.map E'.map v.annotations v.descriptor
        → (rs rs' : List (Outcome Annotated)) → length rs ≡ length rs'
        → AnnotationRun (E.annotation v.descriptor) v.annotations rs → AnnotationRun (E'.annotation v.descriptor) v.annotations rs'
        → rs ≡ rs'
    pub identifiers : (rules : Rules) (lo hi : ℕ) (v : Spans) → ValueOutside rules lo hi v
        → (at : ℕ) → Same E.map E'.map at (looked_to E.map at v.descriptor)
        → (r r' : Outcome Annotated) → E.annotation v.descriptor at r → E'.annotation v.descriptor at r' → r ≡ r'
    pub kept : (rules : Rules) (lo hi : ℕ) (v : Spans) → ValueOutside rules lo hi v → NoneOf Chosen v
        → Same E.map E'.map v.annotations v.descriptor
    pub enterings : (rules : Rules) (lo hi : ℕ) (v : Spans) → ValueOutside rules lo hi v → (at : ℕ) → EntryAt v at
        → (r r' : Outcome Opened) → E.entering lo hi at r → E'.entering lo hi at r' → r ≡ r'
    pub readings : (rules : Rules) (lo hi : ℕ) (v : Spans) → ValueOutside rules lo hi v → NoneOf Chosen v → (at : ℕ) → EntryAt v at
        → (r r' : Outcome Scalar) → E.reading lo hi at r → E'.reading lo hi at r' → r ≡ r'
    pub parts : (rules : Rules) (lo hi : ℕ) (v : Spans) → ValueOutside rules lo hi v → NoneOf Chosen v → (at : ℕ) → EntryAt v at
        → (r r' : List ℕ) → E.bytes lo hi at r → E'.bytes lo hi at r' → r ≡ r'
    pub owner : (rules : Rules) (lo hi : ℕ) → EitherPart E E' lo₀ hi₀ rules lo hi → (i : Item) (v : Spans) → ValueOf i v → Chosen (value_site i v)
        → (rs rs' : List Stepped) → Calls E E' lo₀ hi₀ rules lo hi rs rs' → Iff (Memᴰ i (items rs)) (Memᴰ i (items rs'))
    pub pad : (rules : Rules) (lo hi : ℕ) → EitherPart E E' lo₀ hi₀ rules lo hi → (p : Pad) → Chosen (pad_site p)
        → (rs rs' : List Stepped) → Calls E E' lo₀ hi₀ rules lo hi rs rs'
        → Iff (Memᴰ p (pads_after E.limit rules E.map lo hi rs)) (Memᴰ p (pads_after E'.limit rules E'.map lo hi rs'))

-- "Spans at all of them .. stay the same", of what is reached by the answers that the rules define: each of them is reached on the second map too, with the
-- same span; and a part outside them, an item that it hands out and a pad that it skips, are reached on the one map where they are on the other.
pub record SameReached (limit : ℕ) (s s' : List ℕ) (lo₀ hi₀ : ℕ) (Chosen : Site → Type 0) : Type 0 where
  pub sites : Sites limit s' (ByRules limit s').step lo₀ hi₀ Chosen
  pub parts : (rules : Rules) (lo hi : ℕ) → OutsideAll Chosen lo hi
      → Iff (Part (ByRules limit s).step lo₀ hi₀ rules lo hi) (Part (ByRules limit s').step lo₀ hi₀ rules lo hi)
  pub hands : (rules : Rules) (lo hi : ℕ) (i : Item) → OutsideAll Chosen lo hi
      → Iff (Handed (ByRules limit s).step lo₀ hi₀ rules lo hi i) (Handed (ByRules limit s').step lo₀ hi₀ rules lo hi i)
  pub skips : (rules : Rules) (lo hi : ℕ) (p : Pad) → OutsideAll Chosen lo hi
      → Iff (Skipped limit s (ByRules limit s).step lo₀ hi₀ rules lo hi p) (Skipped limit s' (ByRules limit s').step lo₀ hi₀ rules lo hi p)
