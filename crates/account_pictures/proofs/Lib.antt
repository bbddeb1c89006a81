mod StoryExamples
