-- The claims, by citation.
-- Assumes nothing.
use seplogic.Ra.Ura.{Ura}
use prog.Model.{Model}
use contract.Running.{Running}
use types.Logic.{Logic}
use contract.Lifetimes.{Lfts}
use Rattle.numbers.proofs.Meaning.{var-uint-sound, var-uint-complete, var-int-sound, var-int-complete, ints-sound, ints-complete}
use Rattle.framing.proofs.Ranges.{limit-range}
use Rattle.framing.proofs.Soundness.{values-sound, pads-sound}
use Rattle.framing.proofs.Completeness.{values-complete, pads-complete}
use Rattle.bodies.proofs.Splitting.{decimals-sound, decimals-complete, empty-decimals, decimals-local, decimals-moved}
use Rattle.timestamps.proofs.Gregorian.{months-sound, months-complete, four-centuries}
use Rattle.timestamps.proofs.Stamping.{timestamps-sound, timestamps-complete}
use Rattle.timestamps.proofs.StampMoving.{timestamps-local, timestamps-moved}
use Rattle.stepping.proofs.Soundness.{steps-sound, steps_repeat, refusals_keep}
use Rattle.stepping.proofs.Completeness.{steps-complete}
use Rattle.stepping.proofs.Tiling.{runs}
use Rattle.counting.proofs.Meanings.{ids-sound, no-ids-unread}
use Rattle.counting.proofs.MoreMeant.{more-sound, more-complete, else-the-step}
use Rattle.counting.proofs.Repeating.{repeating}
use Rattle.counting.proofs.Looking.{work-bounded}
use Rattle.counting.proofs.BoundedTiling.{bounded_tiling, bounded_runs}
use Rattle.values.proofs.Meanings.{scalars_meant}
use Rattle.values.proofs.Edges.{edges}
use Rattle.symbols.proofs.Told.{texts_told}
use Rattle.symbols.proofs.Stages.{two_stages, steps_enough}
use Rattle.symbols.proofs.Runs.{ruling_of_runs, places_given, list_of_runs, entry_of_runs}
use Rattle.walking.proofs.Depths.{limits-range}
use Rattle.walking.proofs.Seeking.{visit_depth}
use Rattle.walking.proofs.Exact.{exact, never_outside}
use Rattle.checking.proofs.Walked.{checks-walk, accepted-walk, refused-walk, first-refusal}
use Rattle.checking.proofs.Holding.{counts-held}
use Rattle.checking.proofs.Baking.{baking}
use Rattle.checking.proofs.Moving.{items_alike}
use Rattle.encoding.proofs.VarUInts.{var-uint-sized, var-uint-shortest}
use Rattle.encoding.proofs.Heads.{head-shortest, typed-back, wrapper-back}
use Rattle.packing.proofs.Twice.{packed-short, packed-tree, packed-twice}
use Rattle.packing.proofs.Accepted.{packed-accepted}
use Rattle.packing.proofs.SameItems.{same-items}
use Rattle.writing.proofs.Back.{values-back}
use Rattle.writing.proofs.OneByteValues.{nulls-back, bools-back}
use Rattle.writing.proofs.PadsBack.{pads-back}
use Rattle.writing.proofs.ScalarsBack.{scalars-back, containers-back}
use Rattle.writing.proofs.WrappersBack.{wrappers-back}
use Rattle.writing.proofs.Judging.{judged_as_a_map, accepted_as_a_map}
use Rattle.writing.proofs.OneByteJudged.{one_byte_judged}
use Rattle.writing.proofs.ScalarsJudged.{scalars_judged, scalars_accepted}
use Rattle.writing.proofs.BareJudged.{bare_judged, bare_accepted}
use Rattle.writing.proofs.WrappersJudged.{wrappers_judged, wrappers_accepted}
use Rattle.runs.specs.Program.{HasEntries}
use Rattle.overwriting.specs.ProgramTexts.{HasLookups}
use Rattle.runs.proofs.Overwriting.{overwriting}
use Rattle.runs.proofs.OneBody.{still_reached}
use Rattle.runs.proofs.PartSets.{parts-are-sets}
use Rattle.runs.proofs.Program.{program_ends, program_tiling, program_overwriting, program_one_body}
use Rattle.overwriting.proofs.TextsStay.{texts-stay}
use Rattle.overwriting.proofs.ProgramTexts.{program-texts-stay}
use Rattle.records.proofs.FirstBytes.{first-bytes}
use Rattle.batches.proofs.RunsOfCalls.{runs_of_calls}
use Rattle.batches.proofs.RecordsBegin.{records-begin}
use Rattle.claims.specs.Claims.{Total, WholeRuns, Equal}

module _ (M : Type 1) (𝓤 : Ura M) (𝓛 : Logic 𝓤) (𝓜 : Model 𝓤 𝓛.H) (𝓡 : Running 𝓤 𝓛.H 𝓜) (entries : HasEntries 𝓡.env) (lookups : HasLookups 𝓡.env) (κs : Lfts 1) where
  pub total : Total M 𝓤 𝓛 𝓜 𝓡 entries lookups κs
  total = record { ends = program_ends 𝓛 𝓜 𝓡 entries κs; kept = refusals_keep; repeated = steps_repeat; inside = never_outside }

  pub whole_runs : WholeRuns M 𝓤 𝓛 𝓜 𝓡 entries lookups κs
  whole_runs =
      record {
        tiled = program_tiling 𝓛 𝓜 𝓡 entries κs;
        overwritten = program_one_body 𝓛 𝓜 𝓡 entries κs;
        ends = program_ends 𝓛 𝓜 𝓡 entries κs;
        exist = runs;
        reached = still_reached;
        many_overwritten = program_overwriting 𝓛 𝓜 𝓡 entries κs;
        many_reached = overwriting;
        texts_stay = texts-stay;
        program_texts_stay = program-texts-stay 𝓛 𝓜 𝓡 lookups;
        parts_are_sets = parts-are-sets;
        exported = runs_of_calls;
        bounded_tiled = bounded_tiling;
        bounded_exist = bounded_runs;
      }

pub equal : Equal
equal =
    record {
      var_uint_sound = var-uint-sound;
      var_uint_complete = var-uint-complete;
      var_int_sound = var-int-sound;
      var_int_complete = var-int-complete;
      ints_sound = ints-sound;
      ints_complete = ints-complete;
      values_sound = values-sound;
      values_complete = values-complete;
      pads_sound = pads-sound;
      pads_complete = pads-complete;
      steps_sound = steps-sound;
      steps_complete = steps-complete;
      ids_sound = ids-sound;
      no_ids_unread = no-ids-unread;
      more_sound = more-sound;
      more_complete = more-complete;
      else_the_step = else-the-step;
      repeating = repeating;
      work_bounded = work-bounded;
      scalars = scalars_meant;
      decimals_sound = decimals-sound;
      decimals_complete = decimals-complete;
      empty_decimals = empty-decimals;
      decimals_local = decimals-local;
      decimals_moved = decimals-moved;
      months_sound = months-sound;
      months_complete = months-complete;
      four_centuries = four-centuries;
      timestamps_sound = timestamps-sound;
      timestamps_complete = timestamps-complete;
      timestamps_local = timestamps-local;
      timestamps_moved = timestamps-moved;
      walk = exact;
      checks_walk = checks-walk;
      accepted_walk = accepted-walk;
      refused_walk = refused-walk;
      first_refusal = first-refusal;
      counts_held = counts-held;
      baking = baking;
      items_alike = items_alike;
      var_uint_sized = var-uint-sized;
      var_uint_shortest = var-uint-shortest;
      head_shortest = head-shortest;
      typed_back = typed-back;
      wrapper_back = wrapper-back;
      packed_short = packed-short;
      packed_tree = packed-tree;
      packed_twice = packed-twice;
      packed_accepted = packed-accepted;
      same_items = same-items;
      values_back = values-back;
      nulls_back = nulls-back;
      bools_back = bools-back;
      pads_back = pads-back;
      scalars_back = scalars-back;
      containers_back = containers-back;
      wrappers_back = wrappers-back;
      judged_containers = judged_as_a_map;
      judged_one_byte_structs = one_byte_judged;
      judged_scalars = scalars_judged;
      judged_bare = bare_judged;
      judged_wrappers = wrappers_judged;
      accepted_containers = accepted_as_a_map;
      accepted_scalars = scalars_accepted;
      accepted_bare = bare_accepted;
      accepted_wrappers = wrappers_accepted;
      limit_range = limit-range;
      limits_range = limits-range;
      depth_bound = visit_depth;
      first_bytes = first-bytes;
      records_begin = records-begin;
      texts = texts_told;
      ruling = ruling_of_runs;
      places = places_given;
      lists = list_of_runs;
      entries = entry_of_runs;
      steps = steps_enough;
      stages = two_stages;
      edges = edges;
    }
