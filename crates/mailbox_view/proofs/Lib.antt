mod FolderLemmas
mod TagLemmas
mod ViewLemmas
mod ViewExamples
