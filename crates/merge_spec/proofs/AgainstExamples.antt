-- The rules give what the examples say.
use mathlib.Core.Path.{refl}
use Rattle.merge_spec.specs.Merge.{OneText}
use Rattle.merge_spec.specs.Inner.{joined}
use Rattle.merge_spec.specs.Examples.{refused_merges, front_tables, front_cars, rear_tables, rear_cars, both_text, MergeExamples}
use Rattle.merge_spec.proofs.Joining.{one_text}

-- the lists are in order
front_first : OneText front_tables front_cars rear_tables rear_cars both_text
unfolding joined
front_first = one_text front_tables front_cars rear_tables rear_cars both_text refl refl refl refl refl refl refl

rear_first : OneText rear_tables rear_cars front_tables front_cars both_text
unfolding joined
rear_first = one_text rear_tables rear_cars front_tables front_cars both_text refl refl refl refl refl refl refl

pub merge_examples : MergeExamples
unfolding refused_merges
merge_examples = record {
  held = refl;
  no_cars_lem = refl;
  nothing = λ lent. (refl, refl);
  order = λ lent. record { text = both_text; made = front_first; handed = refl; bytes = refl };
  swapped = λ lent. record { text = both_text; made = rear_first; handed = refl; bytes = refl };
  turned_away_lem = (refl, (refl, (refl, (refl, (refl, (refl, (refl, (refl, (refl, (refl, (refl, (refl, (refl, (refl, (refl, (refl, (refl, (refl, (refl, (refl, (refl, tt)))))))))))))))))))));
  full = refl;
  full_with_none = refl;
  nowhere = refl;
  least = refl;
  short = refl;
  short_for_little = refl;
  long_enough = refl;
}
