-- Hands on the definitions cited elsewhere.
pub use Rattle.msg_serve.specs.Lines.{in_front, lines_of}
pub use Rattle.msg_serve.specs.Requests.{AsksFor, IsRefusedBy, Request, frame_read, is_for_readers, names_of, request_of}
pub use Rattle.msg_serve.specs.Served.{AsksNext, EachFileHasOneTrace, EachLineHasOneAnswer, EndsServing, EndsTrace, IsAnswered, IsNamed, IsTraced, OnlyFramesChange, ServesAsRunsTell, StopsAfter, TakesInLine, after_own, after_request, after_requests, answer_of, frames_among, number_of, own_requests, texts_of, with_frames, write_failed}
