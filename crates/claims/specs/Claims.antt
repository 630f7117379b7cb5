-- The three demands, each sentence that is proved above its theorem. What a name stands for is in the file that its `use` line names, and docs/READING.md says
-- in which order to read them. What is tested and not proved, the comparison with ion-rust above all, is in docs/CLAIMS.md.
-- Assumes nothing.
use seplogic.Ra.Ura.{Ura}
use prog.Model.{Model}
use types.Logic.{Logic}
use contract.Lifetimes.{Lfts}
use contract.Running.{Running}
use Rattle.numbers.specs.Meaning.{VarUIntSound, VarUIntComplete, VarIntSound, VarIntComplete, IntsSound, IntsComplete}
use Rattle.framing.specs.Limits.{LimitRange}
use Rattle.framing.specs.Meaning.{ValuesSound, ValuesComplete, PadsSound, PadsComplete}
use Rattle.bodies.specs.Decimal.{DecimalsSound, DecimalsComplete, EmptyDecimals, DecimalsLocal, DecimalsMoved}
use Rattle.timestamps.specs.Calendar.{MonthsSound, MonthsComplete, FourCenturies}
use Rattle.timestamps.specs.TimestampMeaning.{TimestampsSound, TimestampsComplete, TimestampsLocal, TimestampsMoved}
use Rattle.stepping.specs.Meaning.{StepsSound, StepsComplete, StepsRepeat, RefusalsKeep}
use Rattle.stepping.specs.Theorems.{RunsExist}
use Rattle.counting.specs.Meaning.{IdsSound, NoIdsUnread}
use Rattle.counting.specs.Theorems.{MoreSound, MoreComplete, ElseTheStep, Repeating, WorkBounded, BoundedTiling, BoundedRunsExist}
use Rattle.values.specs.Meaning.{ScalarsMeant}
use Rattle.values.specs.Edges.{Edges}
use Rattle.symbols.specs.TextTheorems.{TextsTold, TwoStages, StepsEnough, RulingOfRuns, PlacesGiven, ListOfRuns, EntryOfRuns}
use Rattle.walking.specs.Theorems.{Exact, NeverOutside, LimitsRange, DepthBound}
use Rattle.checking.specs.Theorems.{ChecksWalk, AcceptedWalk, RefusedWalk, FirstRefusal, CountsHeld}
use Rattle.checking.specs.Unrefused.{Baking}
use Rattle.checking.specs.Moved.{ItemsAlike}
use Rattle.encoding.specs.Meaning.{VarUIntSized, VarUIntShortest, HeadShortest, TypedBack, WrapperBack}
use Rattle.packing.specs.Theorems.{PackedShort, PackedTree, PackedTwice, PackedAccepted, SameItems}
use Rattle.writing.specs.Theorems.{ValuesBack, NullsBack, BoolsBack, PadsBack}
use Rattle.writing.specs.Back.{ScalarsBack, ContainersBack, WrappersBack}
use Rattle.writing.specs.Judged.{JudgedContainers, JudgedOneByteStructs, JudgedScalars, JudgedBare, JudgedWrappers}
use Rattle.writing.specs.Judged.{AcceptedContainers, AcceptedScalars, AcceptedBare, AcceptedWrappers}
use Rattle.runs.specs.Theorems.{Overwriting, PartsAreSets, StillReached}
use Rattle.runs.specs.Program.{HasEntries, ProgramEnds, ProgramTiling, ProgramOverwriting, ProgramOneBody}
use Rattle.overwriting.specs.TextsStay.{TextsStay}
use Rattle.overwriting.specs.ProgramTexts.{HasLookups, ProgramTextsStay}
use Rattle.records.specs.Theorems.{FirstBytes}
use Rattle.batches.specs.Theorems.{RunsOfCalls, RecordsBegin}

-- Of the machine's own calls: in every model of the machine, in every environment that has the functions' code, for whichever borrow lends the map.
module _ (M : Type 1) (𝓤 : Ura M) (𝓛 : Logic 𝓤) (𝓜 : Model 𝓤 𝓛.H) (𝓡 : Running 𝓤 𝓛.H 𝓜)
    (entries : HasEntries 𝓡.env) (lookups : HasLookups 𝓡.env) (κs : Lfts 1) where
  -- 1, total: "Whoever calls a public entry, with any bytes and positions of any size, gets a result or a numbered refusal with its position, and the call
  -- ends." Every public function's contract says the first half; this says both of the machine, for the three steps, the annotation step, stepping in and the
  -- scalar reading.
  pub record Total : Type 1 where
    pub ends : ProgramEnds 𝓛 𝓜 𝓡.env κs
    -- "A refusal leaves the cursor as given", and "end and refusal repeat at each further call".
    pub kept : RefusalsKeep
    pub repeated : StepsRepeat
    -- Of the walk: "from the start no step answers 50".
    pub inside : NeverOutside

  -- 3, whole runs. "For every list of step calls on a stream or a reached body: what is handed out, with the pads before it, tiles the part exactly and in
  -- order." Its markers are E0 01 00 EA, by the change request A.2: "the tiling of a map covers 1.0 markers only".
  pub record WholeRuns : Type 1 where
    pub tiled : ProgramTiling 𝓛 𝓜 𝓡.env κs
    -- "Overwrite one reached body: every run, annotation step, stepping in and scalar reading outside it answers the same", and its own span stays.
    pub overwritten : ProgramOneBody 𝓛 𝓜 𝓡.env κs
    -- The calls of the program end, there are runs of every length, and what was overwritten is reached on the second map too: nothing is said of nothing.
    pub ends : ProgramEnds 𝓛 𝓜 𝓡.env κs
    pub exist : RunsExist
    pub reached : StillReached
    -- By the change request A.14, of "any set of reached values and pads, none inside another", with "their bodies, and annotation bytes where there are any"
    -- overwritten: "each reached step and scalar reading outside them, stay the same; annotation IDs stay where their bytes did", of the program; "Spans at all
    -- of them" stay, in that they are reached on the second map too; and "An ID's text may move only" after an overwritten table, or what lies in one or may be
    -- one, of the definitions and, for whichever two borrows lend map and system's texts, of the program. The values and pads of any one part are such a set.
    -- The theorem on one body is a case of it.
    pub many_overwritten : ProgramOverwriting 𝓛 𝓜 𝓡.env κs
    pub many_reached : Overwriting
    pub texts_stay : TextsStay
    pub program_texts_stay : (lent : Lfts 2) → ProgramTextsStay 𝓛 𝓜 𝓡.env lent
    pub parts_are_sets : PartsAreSets
    -- The exported function of many steps makes such a run.
    pub exported : RunsOfCalls
    -- Runs of bounded steps tile the part likewise, by the rules, and exist.
    pub bounded_tiled : BoundedTiling
    pub bounded_exist : BoundedRunsExist

-- 2, equal: "what the Ion 1.0 Binary Encoding defines is proved against a definition made from it", in both directions: what is answered is what the document
-- says (sound), and what it says within the limits is answered (complete).
pub record Equal : Type 0 where
  -- numbers
  pub var_uint_sound : VarUIntSound
  pub var_uint_complete : VarUIntComplete
  pub var_int_sound : VarIntSound
  pub var_int_complete : VarIntComplete
  pub ints_sound : IntsSound
  pub ints_complete : IntsComplete
  -- values with their wrappers, and pads
  pub values_sound : ValuesSound
  pub values_complete : ValuesComplete
  pub pads_sound : PadsSound
  pub pads_complete : PadsComplete
  -- steps: the pads skipped, and the item, the end or the refusal behind them
  pub steps_sound : StepsSound
  pub steps_complete : StepsComplete
  -- by the change request A.3, "how many IDs that step began to read": one for each pad skipped, where it starts, and one more where what follows them starts
  pub ids_sound : IdsSound
  pub no_ids_unread : NoIdsUnread
  -- by the change request A.8, the bounded step: "kind 4 exactly when that many pads were passed and another pad's descriptor comes next", else the step's
  -- answer; "repeating the bounded step reaches the item, end or refusal that the plain step gives"; and its work is bounded
  pub more_sound : MoreSound
  pub more_complete : MoreComplete
  pub else_the_step : ElseTheStep
  pub repeating : Repeating
  pub work_bounded : WorkBounded
  -- scalars
  pub scalars : ScalarsMeant
  -- decimals, by the change request A.1: "the exponent, negative zero as 0, and the coefficient as an Int's answer. An empty body is zero with exponent 0"; and
  -- that the answer depends on the body's bytes alone, wherever they stand
  pub decimals_sound : DecimalsSound
  pub decimals_complete : DecimalsComplete
  pub empty_decimals : EmptyDecimals
  pub decimals_local : DecimalsLocal
  pub decimals_moved : DecimalsMoved
  -- timestamps, by the change request A.4: "offset minutes or unknown, then the UTC fields present, to the fraction's coefficient and exponent", days "as in the
  -- Gregorian month"; and what is read depends on the body's bytes alone, wherever they stand
  pub months_sound : MonthsSound
  pub months_complete : MonthsComplete
  pub four_centuries : FourCenturies
  pub timestamps_sound : TimestampsSound
  pub timestamps_complete : TimestampsComplete
  pub timestamps_local : TimestampsLocal
  pub timestamps_moved : TimestampsMoved
  -- the walk: "Markers and values in order, a non-null container before what is in it"
  pub walk : Exact
  -- the check of a whole map, by the change request A.5: it is the walk, its items read in order, with the first refusal that this meets; "a walk of an accepted
  -- map must meet the same items as the counts say", and where the walk is refused so is the check; each count, that of the pads too, is of what the bytes hold;
  -- in an accepted map no call on what is reached is refused; and what is read of a value depends on its bytes alone, wherever they stand
  pub checks_walk : ChecksWalk
  pub accepted_walk : AcceptedWalk
  pub refused_walk : RefusedWalk
  pub first_refusal : FirstRefusal
  pub counts_held : CountsHeld
  pub baking : Baking
  pub items_alike : ItemsAlike
  -- packed maps, by the change requests A.11 and A.12: lengths are in their shortest form, and what is written is read back wherever it stands; a packed map is no
  -- longer than the map and read as the same tree; "packing twice changes nothing"; the check accepts it, and "a walk of the result meets the same items as before,
  -- offsets and lengths apart"
  pub var_uint_sized : VarUIntSized
  pub var_uint_shortest : VarUIntShortest
  pub head_shortest : HeadShortest
  pub typed_back : TypedBack
  pub wrapper_back : WrapperBack
  pub packed_short : PackedShort
  pub packed_tree : PackedTree
  pub packed_twice : PackedTwice
  pub packed_accepted : PackedAccepted
  pub same_items : SameItems
  -- what is written, by the change request A.13: "The reader gives back each thing written", wherever it stands; "Where A.5 would refuse what is to be written,
  -- taken as a map, its number is given", and what is written A.5 accepts
  pub values_back : ValuesBack
  pub nulls_back : NullsBack
  pub bools_back : BoolsBack
  pub pads_back : PadsBack
  pub scalars_back : ScalarsBack
  pub containers_back : ContainersBack
  pub wrappers_back : WrappersBack
  pub judged_containers : JudgedContainers
  pub judged_one_byte_structs : JudgedOneByteStructs
  pub judged_scalars : JudgedScalars
  pub judged_bare : JudgedBare
  pub judged_wrappers : JudgedWrappers
  pub accepted_containers : AcceptedContainers
  pub accepted_scalars : AcceptedScalars
  pub accepted_bare : AcceptedBare
  pub accepted_wrappers : AcceptedWrappers
  -- the limits, by the change request A.9: each theorem here is for every limit of annotation bytes and every depth. 68 is answered outside 255 to 65535 and
  -- 1 to 64, and there alone; and nothing is met deeper than the depth given.
  pub limit_range : LimitRange
  pub limits_range : LimitsRange
  pub depth_bound : DepthBound
  -- the records, by the change request A.6: "The first eight words keep their meaning", in single calls and in many steps
  pub first_bytes : FirstBytes
  pub records_begin : RecordsBegin
  -- the text of a symbol, by the change request A.7: where it lies and what it is; that the lookup's steps are the reader's own, as many as there are; and that
  -- the list found once and a text under it are the lookup
  pub texts : TextsTold
  pub ruling : RulingOfRuns
  pub places : PlacesGiven
  pub lists : ListOfRuns
  pub entries : EntryOfRuns
  pub steps : StepsEnough
  pub stages : TwoStages
  -- the maps at the edges that are to be proved
  pub edges : Edges
