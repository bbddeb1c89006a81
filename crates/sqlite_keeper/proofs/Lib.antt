mod PathLemmas
mod FileExamples
