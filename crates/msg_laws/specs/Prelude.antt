-- Hands on the definitions cited elsewhere.
pub use Rattle.msg_laws.specs.Fates.{EachMeetsOneFate, Fate, IsGivenOnce, IsInOrderOf, IsTiled, LogsTellEntries, Meets, MeetsOneFate, ReadersTile, WritersInOrder, log_entries, messages_given, numbered_given, numbers_at, numbers_of, written_by}
pub use Rattle.msg_laws.specs.Fates.Fate.{cleared, given, missed}
pub use Rattle.msg_laws.specs.Latency.{AllReadersHaveItNext, HasTaken, LaterReadersHaveItAtOnce, PostsAreTakenAtOnce}
pub use Rattle.msg_laws.specs.Observers.{IsWithoutObserver, ObserversDisturbNobody, ObserversMayBeAdded, rules_without, without_turns_of}
pub use Rattle.msg_laws.specs.ReaderLaws.{AccountsBalance, AccountsBeginAtTheStart, AllAreAnswered, AreAnswered, BacklogsAddUp, IsAtStart, LateReadersStart, NoneBeforeJoining, answers_of, done_in}
pub use Rattle.msg_laws.specs.TurnLaws.{AreOrdered, DrainsTakeAll, FramesRunByBatches, IsPastLimit, LawfulOrdersAgree, ListsOnlyGrow, OpsAreRefusedPastLimits, OrderIsSettled, RunsCompose, SameSystemsHaveSameAccesses, SystemsAreRefusedPastLimits, TurnsAreInOrder, TurnsKeepSystems, TurnsOfOthersCommute, by_batches}
pub use Rattle.msg_laws.specs.UpToDate.{IsUpToDate, MissesNothing, NothingDrained, ReadsAll, ReadsAllInEach, WhoBeginsReadingAll, WhoIsUpToDateMissesNothing, WhoReadsAllCatchesUp, WhoReadsAllHasTheFrameBefore, WhoReadsAllIsUpToDate, WhoReadsEachFrameMissesNothing, WhoseProgramReadsAll, reads_all}
pub use Rattle.msg_laws.specs.WakeUps.{IsSkipped, IsWokenBy, NoWakeUpIsLost, NothingUnread, ReadsAllIfWoken, ReadsAllWhenWoken, WhoBeginsIsWoken, WhoBeginsReadingAllWhenWoken, WhoIsWokenStaysSo, WhoSleepsHasNothingUnread, WhoseProgramReadsAllWhenWoken}
