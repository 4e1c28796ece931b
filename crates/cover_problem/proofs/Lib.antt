pub mod CoverExamples
mod ValidationExamples
mod ReadingExamples
mod GrammarExamples
pub mod BoundLemmas
pub mod MemberLemmas
pub mod NumberLemmas
pub mod RisingLemmas
pub mod PartLemmas
pub mod MapLemmas
pub mod FlatListLemmas
pub mod NameLemmas
pub mod OptionLemmas
pub mod HolderLemmas
pub mod TimeLemmas
pub mod ActiveLemmas
pub mod CoveredLemmas
pub mod RemainingLemmas
pub mod ChoiceLemmas
pub mod PathLemmas
pub mod CoverEach
pub mod CoverLemmas
pub mod ProblemLemmas
pub mod TableLemmas
pub mod WalkLemmas
pub mod ReadingLemmas
pub mod ItemLemmas
pub mod BegunLemmas
pub mod TextLemmas
pub mod AgainLemmas
pub mod GrammarLemmas
pub mod WrittenLemmas
pub mod WriterLemmas
pub mod FirstFaultLemmas
pub mod NoItemLemmas
pub mod CoverTestLemmas
