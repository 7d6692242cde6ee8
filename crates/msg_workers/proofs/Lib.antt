pub mod WorkersDraw
