-- A short field ID with something behind it is a name, and no other is said; a step that is entered behind it is the step.
-- Assumes nothing.
use Prim.Native.Nat.{ℕ, ◌+◌, ◌<◌}
use borrow.Author.Tests.{eq-eqb, lt-leb}
use mathlib.Core.Path.{◌≡◌, refl, ◌∙◌, sym, ap}
use mathlib.Core.Bool.{false}
use mathlib.Core.List.{List}
use lib.Dec.{eqb}
use Rattle.std.specs.Prelude.{Option, Some, None}
use Rattle.std.specs.Option.{unwrap_or}
use Rattle.numbers.specs.Outcome.{Outcome, gives, refuses, and_then}
use Rattle.numbers.specs.Answers.{Unsigned}
use Rattle.numbers.specs.ShortVarUInt.{short_bytes, short, none, short_var_uint_of}
use Rattle.numbers.proofs.Outcomes.{by_case, Each, given, refused}
use Rattle.numbers.proofs.ShortVarUInts.{short_given, given_short, short_near, none_long}
use Rattle.stepping.specs.Answers.{answer_at}
use Rattle.stepping.specs.Names.{followed, name_at, answer_from}
use Rattle.stepping.specs.Read.{name_of, short_name_read}
use Rattle.stepping.specs.declared.cursor.Name.{Name}
use Rattle.stepping.specs.declared.cursor.Rules.{Rules}
use Rattle.stepping.proofs.Naming.{answer_unread}
use Rattle.stepping.proofs.Plain.{named_stepped}

module _ (at end : ℕ) where
  -- something follows it
  pub short_named : (o : Outcome Unsigned) {u : Unsigned} → short_var_uint_of at o ≡ short u → eqb u.next end ≡ false → short u ≡ short_var_uint_of at (and_then o (followed end))
  unfolding followed
  short_named o {u} e f = rw (short_given at o e, f) (sym (given_short at {o = gives u} refl (short_near at o e)))

  -- nothing does
  pub short_unfollowed : (o : Outcome Unsigned) {u : Unsigned} → short_var_uint_of at o ≡ short u → u.next ≡ end → none ≡ short_var_uint_of at (and_then o (followed end))
  unfolding followed
  short_unfollowed o {u} e q = rw (short_given at o e, eq-eqb u.next end q)

  -- it is longer, or refused
  unsaid : (o : Outcome Unsigned) → Each (λ (u : Unsigned). at + short_bytes < u.next) o → none ≡ short_var_uint_of at (and_then o (followed end))
  unfolding followed
  unsaid (gives u) (given h) = by_case (eqb u.next end) (λ e. rw e) (λ e. rw (e, lt-leb u.next (at + short_bytes) h))
  unsaid (refuses n p) refused = refl

  pub short_unsaid : (o : Outcome Unsigned) → short_var_uint_of at o ≡ none → none ≡ short_var_uint_of at (and_then o (followed end))
  short_unsaid o e = unsaid o (none_long at o e)

-- what a short name says
pub short_said : (rules : Rules) (s : List ℕ) (at end : ℕ) {o : Option Name} {n : Name} → short_name_read o ≡ short_var_uint_of at (name_at rules s at end) → o ≡ Some n → name_at rules s at end ≡ gives (name_of n)
short_said rules s at end h e = short_given at (name_at rules s at end) (sym h ∙ ap short_name_read e)

-- a step that is entered behind the short name, if there is one, is the step
pub entered : (limit : ℕ) (rules : Rules) (s : List ℕ) (at end : ℕ) (o : Option Name) → short_name_read o ≡ short_var_uint_of at (name_at rules s at end) → answer_from limit rules s at end (name_of (unwrap_or o (record { id = 0; next = at }))) ≡ answer_at limit rules s at end
entered limit rules s at end (Some n) h = named_stepped limit rules s at end (name_of n) (short_said rules s at end h refl)
entered limit rules s at end None h = answer_unread limit rules s at end 0
